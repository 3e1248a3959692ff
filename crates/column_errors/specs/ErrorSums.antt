-- The error sums of a column file, from the file's bytes to the text's bytes.
use Rattle.std.specs.Prelude.{ℕ, List, [], ◌∷◌, Ok}
use Rattle.lent_bytes.specs.Bytes.{joined}
use Rattle.lent_text.specs.Text.{decimal, line}
use Rattle.refusals.specs.Result.{Result, and_then}
use Rattle.refusal_text.specs.RefusalText.{printed}
use Rattle.column_file.specs.Format.{Observation}
use Rattle.column_file.specs.Reading.{read_file}
use Rattle.expected_errors.specs.Sums.{error_sum}

-- a column's line: its sum alone
unfoldable pub sum_line : List Observation → List ℕ
sum_line c = line (decimal (error_sum c) ∷ [])

-- of columns, one after another
unfoldable pub sum_lines : List (List Observation) → List ℕ
sum_lines cs = joined sum_line cs

-- of a file, or the number by which it is refused; what its strings say is not asked
unfoldable pub summed_file : List ℕ → Result (List ℕ)
summed_file s = and_then (read_file s) (λ f. Ok (sum_lines f.columns))

-- what the program prints for a file
unfoldable pub error_sums_of : List ℕ → List ℕ
error_sums_of s = printed (summed_file s)

-- this number of bytes holds every text
abbrev pub longest_sums : ℕ
longest_sums = 700000
