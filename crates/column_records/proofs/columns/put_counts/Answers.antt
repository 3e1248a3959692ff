-- `put_counts`: one count more. Assumes nothing.
use mathlib.Core.Path.{sym}
use native.Mathlib.Omega.{arith}
use Rattle.lent_bytes.specs.Bytes.{four_bytes}
use Rattle.lent_text.proofs.Printed.{print_then, printed_as}
use Rattle.listing_lines.proofs.Lines.{joined_more}
use Rattle.column_records.proofs.columns.put_counts.Goals as goal

pub loop-count-preserved : goal.loop-count-preserved
loop-count-preserved c =
    printed_as (print_then c.loop-count.invariant c.four.ensures) (sym (joined_more four_bytes c.args.counts c.loop-count.count-index (omega arith)))
