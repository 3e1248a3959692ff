-- `any_absent`: one among those passed, or else those still to come decide. Assumes nothing.
use mathlib.Core.Path.{◌≡◌}
use Prim.Native.Nat.{◌*◌}
use Rattle.std.specs.Prelude.{Err, if◌then◌else◌}
use lib.ListN.{drop}
use Rattle.refusals.specs.declared.Refusal.TheVariants.{AbsentQuality}
use Rattle.column_file.specs.Reading.{column_verdict}
use Rattle.column_file.specs.Places.{observations_in}
use Rattle.column_file.proofs.columns.any_absent.Given as goal

abbrev pub invariant-loop-pair : goal.invariant-loop-pair
invariant-loop-pair l =
    column_verdict (observations_in l.observations) ≡ (if l.absent then Err AbsentQuality else column_verdict (observations_in (drop (2 * l.pair-index) l.observations)))
