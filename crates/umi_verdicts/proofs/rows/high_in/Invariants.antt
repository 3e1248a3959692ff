-- `high_in`: those left say what all of them say. Assumes nothing.
use Rattle.std.specs.List.{list_any}
use Rattle.std.proofs.Common.{◌≡◌, length}
use Rattle.umi_rows.specs.Rows.{is_high}
use Rattle.umi_verdicts.proofs.rows.high_in.Given as goal

abbrev pub invariant-loop-block : goal.invariant-loop-block
invariant-loop-block l = list_any is_high l.rest ≡ list_any is_high l.bytes

abbrev pub decreases-loop-block : goal.decreases-loop-block
decreases-loop-block l = length l.rest
