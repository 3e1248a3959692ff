-- `put_tables`: the four tables and the cap. Assumes nothing.
use Rattle.std.proofs.Common.{◌∙◌}
use Rattle.std.specs.Int.{w64}
use Rattle.lent_bytes.proofs.Joined.{joined_append}
use Rattle.lent_bytes.proofs.Numbers.{le_bytes}
use Rattle.lent_text.proofs.Printed.{print_then, printed_as}
use Rattle.export_reports.specs.Report.{pattern_of}
use Rattle.export_tables.proofs.put_tables.Goals as goal

pub returns : goal.returns
returns c =
    let correct-error = print_then c.put_patterns.ensures c.put_patterns-2.ensures in
    let four = print_then (print_then correct-error c.put_patterns-3.ensures) c.put_patterns-4.ensures in
    let cap = printed_as c.bytes.ensures (c.to_le_bytes.ensures ∙ le_bytes w64 c.args.gaps.now.cap) in
    printed_as (print_then four cap) (simp (joined_append pattern_of))
