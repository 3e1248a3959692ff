-- The records of a column file, from the file's bytes to the records' bytes.
use Rattle.std.specs.Prelude.{ℕ, ◌-◌, List, [], ◌∷◌, ◌++◌, length, Ok}
use Rattle.lent_bytes.specs.Bytes.{joined, four_bytes}
use Rattle.tie_rules.specs.Lanes.{counted}
use Rattle.refusals.specs.Result.{Result, and_then}
use Rattle.column_file.specs.Format.{Observation}
use Rattle.judged_file.specs.Judged.{judge_file}
use Rattle.column_calls.specs.declared.columns.ColumnCall.{ColumnCall}
use Rattle.column_calls.specs.Columns.{called_column}
use Rattle.listing_lines.specs.Lines.{depth_of}
use Rattle.column_listing.specs.Answers.{room_for_text}

-- a record of 28 bytes: base, quality, two zeros, depth, four counts, and how many of n observations are not in the depth
unfoldable pub record_of : ColumnCall → ℕ → List ℕ
record_of c n =
    let counts = c.counts in
    let depth = depth_of counts in
    (c.call.base ∷ c.call.qual.0 ∷ 0 ∷ 0 ∷ [])
    ++ (four_bytes depth
    ++ (four_bytes (counted counts 0) ++ (four_bytes (counted counts 1) ++ (four_bytes (counted counts 2) ++ (four_bytes (counted counts 3)
    ++ four_bytes (n - depth))))))

-- of columns, one after another, by what is called of each
unfoldable pub records_with : (List Observation → ColumnCall) → List (List Observation) → List ℕ
records_with called = joined (λ c. record_of (called c) (length c))

-- of a file, or the number by which it is refused
unfoldable pub records_of : List ℕ → Result (List ℕ)
records_of s = and_then (judge_file s) (λ j. Ok (records_with (called_column j.file.settings) j.file.columns))

-- with a buffer: 10 comes last
unfoldable pub records_in : List ℕ → List ℕ → Result (List ℕ)
records_in s out = and_then (records_of s) (room_for_text out)
