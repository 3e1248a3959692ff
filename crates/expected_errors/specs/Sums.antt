-- The expected errors of a column: what its qualities' error probabilities add up to, in units of 2^−48.
use Rattle.std.specs.Prelude.{ℕ, List, slice_index, sum_by}
use Rattle.column_file.specs.Format.{Observation}
use Rattle.expected_errors.specs.Table.{error_table}

-- by any table: over every quality, whatever the base beside it
unfoldable pub errors_with : List ℕ → List Observation → ℕ
errors_with table c = sum_by (λ o. slice_index table o.quality) c

-- by the table of error probabilities
unfoldable pub error_sum : List Observation → ℕ
error_sum c = errors_with error_table c
