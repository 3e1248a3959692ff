-- `put_sum`: the sum and a newline. Assumes nothing.
use mathlib.Core.Path.{ap}
use Rattle.lent_text.specs.Text.{decimal}
use Rattle.lent_text.proofs.Printed.{print_then, printed_as}
use Rattle.column_errors.specs.Tables.{sum_line_with}
use Rattle.column_errors.proofs.sums.put_sum.Goals as goal

pub returns : goal.returns
unfolding sum_line_with
returns c = print_then (printed_as c.decimal.ensures (ap decimal c.errors_with.ensures)) c.byte.ensures
