-- The parts of a file by their places; `layout` (column_file/proofs/FileLayout) joins them to `read_file`.
use Rattle.std.specs.Prelude.{◌≡◌, ℕ, zero, suc, ◌+◌, ◌*◌, ◌≤◌, List, [], ◌∷◌, leb, length, drop, Option, Some, None, Ok}
use Rattle.std.specs.Prelude.{if◌then◌else◌}
use Rattle.words.specs.Lists.{byte_at}
use Rattle.string_set.specs.Readers.{longest_file}
use Rattle.string_set.specs.StringSet.{read_set}
use Rattle.column_file.specs.declared.columns.ColumnPlace.{ColumnPlace}
use Rattle.column_file.specs.declared.file.Places.{Places}
use Rattle.column_file.specs.Format.{Observation}
use Rattle.column_file.specs.Reading.{File}

-- ---- where a part is

-- in an accepted file the columns start after a count byte, three settings and a two-byte count
abbrev pub head_size : ℕ
head_size = 6

-- the two-byte count at a place
abbrev pub word_at : List ℕ → ℕ → ℕ
word_at s at = byte_at s at + 256 * byte_at s (at + 1)

-- of the column whose count is at a place: where its first observation is, and how many there are; none where the bytes do not reach
unfoldable pub column_at : List ℕ → ℕ → Option ColumnPlace
column_at s at =
    if leb (at + 2 + 2 * word_at s at) (length s) then Some (record { start = at + 2; count = word_at s at })
    else None

-- the number of that: 2 where the bytes do not reach
unfoldable pub column_number_at : List ℕ → ℕ → ℕ
column_number_at s at =
    if leb (at + 2 + 2 * word_at s at) (length s) then 0
    else 2

-- n observations from a place on
abbrev pub observations_at : List ℕ → ℕ → ℕ → List Observation
observations_at s at zero = []
observations_at s at (suc n) = record { base = byte_at s at; quality = byte_at s (at + 1) } ∷ observations_at s (at + 2) n

-- the observations in a column's bytes, base and quality in turn; a byte left over is none
unfoldable pub observations_in : List ℕ → List Observation
observations_in [] = []
observations_in (b ∷ []) = []
observations_in (b ∷ q ∷ r) = record { base = b; quality = q } ∷ observations_in r

-- what f makes of where a column is, and nothing where the bytes do not reach
abbrev pub placed : {A : Type 0} → (ℕ → ℕ → List A) → Option ColumnPlace → List A
placed f None = []
placed f (Some p) = f p.start p.count

-- n columns from a place on, as far as the bytes reach
abbrev pub columns_at : List ℕ → ℕ → ℕ → List (List Observation)
columns_at s at zero = []
columns_at s at (suc n) = placed (λ start k. observations_at s start k ∷ columns_at s (start + 2 * k) n) (column_at s at)

-- how many bytes columns take
unfoldable pub columns_size : List (List Observation) → ℕ
columns_size [] = 0
columns_size (c ∷ cs) = 2 + 2 * length c + columns_size cs

-- of an accepted file: its settings, where its columns start, how many they are, and where its string set starts
abbrev pub places_of : File → Places
places_of f = record { settings = f.settings; columns = head_size; count = length f.columns; strings = head_size + columns_size f.columns }

-- ---- where the parts of an accepted file lie

pub record Layout (s : List ℕ) (f : File) : Type 0 where
  -- in at most 65,536 bytes
  pub size : length s ≤ longest_file
  -- the columns after the head
  pub columns : columns_at s head_size (length f.columns) ≡ f.columns
  -- and after them, to the end, the string set
  pub inside : head_size + columns_size f.columns ≤ length s
  pub strings : read_set (drop (head_size + columns_size f.columns) s) ≡ Ok f.strings
