-- What `consensus` says of a set's bytes: refused where the set is, and else of its strings. Assumes nothing.
use Rattle.std.specs.Prelude.{Err, Ok}
use mathlib.Core.Path.{◌≡◌}
use mathlib.Core.List.{List}
use Prim.Native.Nat.{ℕ, ◌≤◌}
use lib.ListN.{length}
use Rattle.refusals.specs.declared.Refusal.{Refusal}
use Rattle.refusals.specs.Result.{and_then}
use Rattle.string_set.specs.StringSet.{read_set}
use Rattle.umi_groups.specs.Found.{room_for, found_length}
use Rattle.umi_groups.proofs.Room.{room_fits, room_few}
use Rattle.simple_consensus.specs.declared.caller.SimpleConsensusCaller.{SimpleConsensusCaller}
use Rattle.simple_consensus.specs.Consensus.{consensus_of}
use Rattle.simple_umi.specs.Answers.{consensus_in}

module _ (s out : List ℕ) (c : SimpleConsensusCaller) where
  pub consensus_in_refused : (r : Refusal) → read_set s ≡ Err r → consensus_in c s out ≡ Err r
  unfolding consensus_in
  consensus_in_refused r e = rw e

  pub consensus_in_lem : (l : List (List ℕ)) → read_set s ≡ Ok l → consensus_in c s out ≡ and_then (consensus_of c l) (room_for out)
  unfolding consensus_in
  consensus_in_lem l e = rw e

  -- where the room is enough
  pub consensus_fits : found_length (and_then (read_set s) (consensus_of c)) ≤ length out → consensus_in c s out ≡ and_then (read_set s) (consensus_of c)
  unfolding consensus_in
  consensus_fits h = room_fits out (and_then (read_set s) (consensus_of c)) h

  pub consensus_few : found_length (and_then (read_set s) (consensus_of c)) ≤ 255 → found_length (consensus_in c s out) ≤ 255
  unfolding consensus_in
  consensus_few h = room_few out (and_then (read_set s) (consensus_of c)) h
