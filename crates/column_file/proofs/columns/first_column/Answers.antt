-- `first_column`: a count, and twice so many bytes. Assumes nothing.
use native.Mathlib.Omega.{arith}
use Rattle.column_file.specs.Format.{column}
use Rattle.column_file.proofs.Front.{column_front}
use Rattle.column_file.proofs.columns.first_column.Goals as goal

pub returns-in_err-count : goal.returns-in_err-count
unfolding column
returns-in_err-count c = rw (c.from_residual.ensures, c.in_err-count.ensures)

pub overflow_mul-count : goal.overflow_mul-count
overflow_mul-count c = omega (arith, c.in_ok-count.ensures.1)

pub returns : goal.returns
returns c = column_front _ _ _ c.split_at_checked.result c.in_ok-count.ensures.0 c.split_at_checked.ensures.cases
