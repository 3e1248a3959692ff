-- The bytes of a file, from what it says.
use Rattle.std.specs.Prelude.{List, [], ◌∷◌, ◌++◌, ℕ, ◌/◌, ◌%◌, length}
use Rattle.lent_bytes.specs.Bytes.{joined}
use Rattle.tie_rules.specs.Ties.{rule_number}
use Rattle.column_file.specs.declared.settings.Settings.{Settings}
use Rattle.column_file.specs.Format.{Observation}
use Rattle.column_file.specs.Reading.{File}

-- a count in two bytes, the low byte first
abbrev pub word_bytes : ℕ → List ℕ
word_bytes n = n % 256 ∷ n / 256 ∷ []

-- the settings after their number, which is 3
unfoldable pub settings_bytes : Settings → List ℕ
settings_bytes g = 3 ∷ g.error_rate_pre_umi.0 ∷ g.error_rate_post_umi.0 ∷ rule_number g.tie_rule ∷ []

-- with the number of columns that follow, as they are lent to a writer
abbrev pub announced_bytes : Settings → ℕ → List ℕ
announced_bytes g n = settings_bytes g ++ word_bytes n

-- an observation: its base, then its quality
abbrev pub observation_bytes : Observation → List ℕ
observation_bytes o = o.base ∷ o.quality ∷ []

-- a column: its observations after their number
unfoldable pub column_bytes : List Observation → List ℕ
column_bytes c = word_bytes (length c) ++ joined observation_bytes c

-- the columns after theirs
unfoldable pub columns_bytes : List (List Observation) → List ℕ
columns_bytes cs = word_bytes (length cs) ++ joined column_bytes cs

-- a string: its bytes after their number
unfoldable pub string_bytes : List ℕ → List ℕ
string_bytes t = length t ∷ t

-- the strings after theirs
unfoldable pub string_set_bytes : List (List ℕ) → List ℕ
string_set_bytes l = length l ∷ joined string_bytes l

-- the settings, the columns, the strings
unfoldable pub file_bytes : File → List ℕ
file_bytes f = settings_bytes f.settings ++ (columns_bytes f.columns ++ string_set_bytes f.strings)
