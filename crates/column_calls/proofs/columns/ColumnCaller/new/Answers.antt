-- `new`: its builder, windows and tables are those of the settings. Assumes nothing.
use Rattle.column_calls.specs.Callers.{called_by}
use Rattle.column_calls.proofs.Tables.{calls_with}
use Rattle.column_calls.proofs.columns.ColumnCaller.new.Goals as goal

pub returns : goal.returns
unfolding called_by
returns c = rw (c.start.ensures, c.of.ensures, c.compute-tables.ensures, c.build_unanimous_gap_tables.ensures) (calls_with c.args.settings)
