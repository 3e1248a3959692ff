-- `error_entry`: the table's number at a byte. Assumes nothing.
use Rattle.expected_errors.specs.Table.{error_of}
use Rattle.expected_errors.proofs.table.error_entry.Goals as goal

pub returns : goal.returns
unfolding error_of
returns c = rw (c.error_table.ensures, c.from.ensures)
