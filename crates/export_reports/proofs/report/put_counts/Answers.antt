-- `put_counts`: one more is printed. Assumes nothing.
use Rattle.std.proofs.Common.{sym, arith}
use Rattle.lent_bytes.specs.Bytes.{four_bytes}
use Rattle.lent_text.proofs.Printed.{print_then, printed_as}
use Rattle.export_reports.proofs.Parts.{one_part}
use Rattle.export_reports.proofs.report.put_counts.Goals as goal

pub loop-n-preserved : goal.loop-n-preserved
loop-n-preserved c =
    printed_as (print_then c.loop-n.invariant c.four.ensures) (sym (one_part four_bytes c.args.counts.now 0 c.loop-n.n-index (omega arith)))
