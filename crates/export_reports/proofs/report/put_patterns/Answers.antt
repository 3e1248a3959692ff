-- `put_patterns`: one more is printed. Assumes nothing.
use Rattle.std.proofs.Common.{sym, ap, ◌∙◌, arith}
use Rattle.std.specs.Int.{w64}
use Rattle.lent_bytes.specs.Bytes.{number_bytes}
use Rattle.lent_bytes.proofs.Numbers.{le_bytes}
use Rattle.lent_text.proofs.Printed.{print_then, printed_as}
use Rattle.export_reports.specs.Report.{pattern_of}
use Rattle.export_reports.proofs.Parts.{one_part}
use Rattle.export_reports.proofs.report.put_patterns.Goals as goal

pub loop-x-preserved : goal.loop-x-preserved
loop-x-preserved c =
    let is_pattern = c.to_le_bytes.ensures ∙ le_bytes w64 c.pattern.result ∙ ap (number_bytes 8) c.pattern.ensures in
    printed_as (print_then c.loop-x.invariant (printed_as c.bytes.ensures is_pattern)) (sym (one_part pattern_of c.args.numbers.now _ c.loop-x.x-index (omega arith)))
