-- What a caller calls of columns.
use Rattle.std.specs.Prelude.{List}
use Rattle.column_file.specs.Format.{Observation}
use Rattle.column_calls.specs.declared.columns.ColumnCall.{ColumnCall}
use Rattle.column_calls.specs.declared.columns.ColumnCaller.{ColumnCaller}
use Rattle.column_calls.specs.Tables.{column_call_with}

-- by the windows, the gap tables and the first builder that it holds
unfoldable pub called_by : ColumnCaller → List Observation → ColumnCall
called_by k c = column_call_with k.windows.rows k.start k.gaps c
