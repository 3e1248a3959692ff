-- The lines of a listing.
use Rattle.std.specs.Prelude.{ℕ, ◌+◌, Bool, true, false, List, [], ◌∷◌}
use Rattle.lent_bytes.specs.Bytes.{joined}
use Rattle.lent_text.specs.Text.{letters, decimal, line}
use Rattle.tie_rules.specs.Lanes.{counted}
use Rattle.lane_calls.specs.declared.call.Call.{Call}
use Rattle.base_builder.specs.Builder.{total}
use Rattle.column_file.specs.declared.settings.Settings.{Settings}
use Rattle.column_file.specs.Format.{Observation}
use Rattle.column_calls.specs.Columns.{builder_of_column, column_call}

-- what the fields of a column's line are called
abbrev pub header : List ℕ
header = line (letters "column base quality depth A C G T" ∷ [])

-- depth: the bases that contributed, which are the four counts together (SCOPE 16.1)
abbrev pub depth_of : List ℕ → ℕ
depth_of counts = total counts

-- a line: number, base, quality, depth, four counts
unfoldable pub line_of : ℕ → Call → List ℕ → List ℕ
line_of i call counts =
    line (
    decimal i ∷ (call.base ∷ []) ∷ decimal call.qual.0 ∷ decimal (depth_of counts)
    ∷ decimal (counted counts 0) ∷ decimal (counted counts 1) ∷ decimal (counted counts 2) ∷ decimal (counted counts 3) ∷ [])

-- of column number i
unfoldable pub column_line : ℕ → Settings → List Observation → List ℕ
column_line i g c = line_of i (column_call g c) (builder_of_column g c).observations

-- of columns, numbered from i on
unfoldable pub column_lines : ℕ → Settings → List (List Observation) → List (List ℕ)
column_lines i g [] = []
column_lines i g (c ∷ cs) = column_line i g c ∷ column_lines (i + 1) g cs

-- a flag in letters
abbrev pub flag : Bool → List ℕ
flag true = letters "true"
flag false = letters "false"

-- the last line: the consensus of the strings, its bytes as they are, and whether a string differs from it
unfoldable pub umi_line : List ℕ → Bool → List ℕ
umi_line text had_errors = line (letters "umi" ∷ text ∷ flag had_errors ∷ [])

-- lines one after another
abbrev pub text_of : List (List ℕ) → List ℕ
text_of ls = joined (λ l. l) ls
