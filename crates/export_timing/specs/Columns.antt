-- The columns of a file called many times, for timing: what their calls add up to.
use Rattle.std.specs.Prelude.{ℕ, ◌*◌, ◌%◌, ◌^◌, List, Err, Ok, sum_by}
use Rattle.refusals.specs.Result.{Result}
use Rattle.column_file.specs.declared.settings.Settings.{Settings}
use Rattle.column_file.specs.Format.{Observation}
use Rattle.column_file.specs.Reading.{File, read_file}
use Rattle.column_calls.specs.declared.columns.ColumnCall.{ColumnCall}
use Rattle.column_calls.specs.Columns.{column_call}
use Rattle.export_timing.specs.Amounts.{amount_of}

-- of all columns
unfoldable pub column_amounts : Settings → List (List Observation) → ℕ
column_amounts g cs = sum_by (λ c. amount_of (column_call g c)) cs

-- the same by what is called of each, however that is made
unfoldable pub amounts_with : (List Observation → ColumnCall) → List (List Observation) → ℕ
amounts_with called cs = sum_by (λ c. amount_of (called c).call) cs

-- that number of times, in 64 bits; 0 for a refused file
abbrev pub calls_in : Result File → ℕ → ℕ
calls_in (Err r) times = 0
calls_in (Ok f) times = times * column_amounts f.settings f.columns % 2 ^ 64

-- of a file's bytes
unfoldable pub calls_of : List ℕ → ℕ → ℕ
calls_of s times = calls_in (read_file s) times
