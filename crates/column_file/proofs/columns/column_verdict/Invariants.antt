-- `column_verdict`: the observations still to come decide, at each turn. Assumes nothing.
use mathlib.Core.Path.{◌≡◌}
use lib.ListN.{length}
use Rattle.column_file.specs.Reading.{column_verdict}
use Rattle.column_file.specs.Places.{observations_in}
use Rattle.column_file.proofs.columns.column_verdict.Given as goal

abbrev pub invariant-loop-block : goal.invariant-loop-block
invariant-loop-block l = column_verdict (observations_in l.rest) ≡ column_verdict (observations_in l.column)

abbrev pub decreases-loop-block : goal.decreases-loop-block
decreases-loop-block l = length l.rest
