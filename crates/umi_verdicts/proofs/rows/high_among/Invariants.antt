-- `high_among`: what those passed say. Assumes nothing.
use Rattle.std.specs.List.{list_any}
use Rattle.std.proofs.Common.{◌≡◌, take}
use Rattle.umi_rows.specs.Rows.{is_high}
use Rattle.umi_verdicts.proofs.rows.high_among.Given as goal

abbrev pub invariant-loop-byte : goal.invariant-loop-byte
invariant-loop-byte l = l.high ≡ list_any is_high (take l.byte-index l.bytes)
