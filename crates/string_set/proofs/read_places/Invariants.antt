-- `read_places`: with the places of the strings still to come, those of the strings are as they are to be, at each turn. Assumes nothing.
use mathlib.Core.Path.{◌≡◌}
use lib.ListN.{length}
use Rattle.string_set.specs.StringSet.{read_set}
use Rattle.string_set.proofs.Placed.{ToPlace, places_of}
use Rattle.string_set.proofs.read_places.Given as goal

abbrev pub invariant-loop-place : goal.invariant-loop-place
invariant-loop-place l = (length l.place-items ≡ l.count) × ToPlace l.set (places_of (read_set l.set)) l.count l.place-items l.place-index l.at
