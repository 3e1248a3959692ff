-- As it is run; `lines_with_lem` (column_errors/proofs/Texts) joins it to `sum_lines`: by a table that is given, and in 64 bits.
use Rattle.std.specs.Prelude.{ℕ, ◌%◌, ◌^◌, List, [], ◌∷◌}
use Rattle.lent_bytes.specs.Bytes.{joined}
use Rattle.lent_text.specs.Text.{decimal, line}
use Rattle.column_file.specs.Format.{Observation}
use Rattle.expected_errors.specs.Sums.{errors_with}

-- a column's line
unfoldable pub sum_line_with : List ℕ → List Observation → List ℕ
sum_line_with table c = line (decimal (errors_with table c % 2 ^ 64) ∷ [])

-- of columns, one after another
unfoldable pub sum_lines_with : List ℕ → List (List Observation) → List ℕ
sum_lines_with table cs = joined (sum_line_with table) cs
