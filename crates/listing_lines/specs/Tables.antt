-- The lines by what is called of each column, however that is made; `lines_with_lem` (column_listing/proofs/Texts) joins them to `column_lines`.
use Rattle.std.specs.Prelude.{ℕ, ◌+◌, Bool, List, [], ◌∷◌, ◌++◌}
use Rattle.column_file.specs.Format.{Observation}
use Rattle.column_calls.specs.declared.columns.ColumnCall.{ColumnCall}
use Rattle.listing_lines.specs.Lines.{header, line_of, umi_line, text_of}

-- the line of column number i, by what is called of it
abbrev pub line_with : ℕ → ColumnCall → List ℕ
line_with i c = line_of i c.call c.counts

-- the lines of columns, numbered from i on
unfoldable pub lines_with : (List Observation → ColumnCall) → ℕ → List (List Observation) → List (List ℕ)
lines_with called i [] = []
lines_with called i (c ∷ cs) = line_with i (called c) ∷ lines_with called (i + 1) cs

-- the whole text
unfoldable pub text_with : (List Observation → ColumnCall) → List (List Observation) → List ℕ → Bool → List ℕ
text_with called cs text had_errors = header ++ text_of (lines_with called 1 cs) ++ umi_line text had_errors
