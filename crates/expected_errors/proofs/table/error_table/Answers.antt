-- `error_table`: the table, number by number. Assumes nothing.
use Rattle.std.proofs.Common.{refl}
use Rattle.expected_errors.specs.Table.{error_table}
use Rattle.expected_errors.proofs.table.error_table.Goals as goal

pub returns : goal.returns
unfolding error_table
returns c = refl
