-- `put_line`: the fields, one after another. Assumes nothing.
use mathlib.Core.Path.{ap}
use native.Mathlib.Omega.{arith}
use Rattle.lent_text.proofs.Printed.{print_then, printed_as}
use Rattle.listing_lines.proofs.Lines.{field, counts_joined, line_puts}
use Rattle.listing_lines.proofs.put_line.Goals as goal

pub returns : goal.returns
returns c =
    printed_as
    (print_then c.decimal.ensures
    (print_then c.byte.ensures
    (print_then c.byte-2.ensures
    (print_then (printed_as c.put_field.ensures (ap field c.from.ensures))
    (print_then (printed_as c.put_field-2.ensures (ap field c.total.ensures))
    (print_then (printed_as c.put_counts.ensures (counts_joined c.args.called.counts (omega arith))) c.byte-3.ensures))))))
    (line_puts c.args.number c.args.called.call c.args.called.counts)
