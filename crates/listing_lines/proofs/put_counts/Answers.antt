-- `put_counts`: one field more. Assumes nothing.
use mathlib.Core.Path.{sym}
use native.Mathlib.Omega.{arith}
use Rattle.lent_text.proofs.Printed.{print_then, printed_as}
use Rattle.listing_lines.proofs.Lines.{field, joined_more}
use Rattle.listing_lines.proofs.put_counts.Goals as goal

pub loop-count-preserved : goal.loop-count-preserved
loop-count-preserved c =
    printed_as (print_then c.loop-count.invariant c.put_field.ensures)
    (rw c.from.ensures (sym (joined_more field c.args.counts c.loop-count.count-index (omega arith))))
