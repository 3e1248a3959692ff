-- Lists of strings: their columns, and what is asked of them.
use Rattle.std.specs.List.{list_all}
use Rattle.std.specs.Prelude.{ℕ, Bool, ◌&&◌, List, [], ◌∷◌, map, ltb, eqb, length}
use Rattle.words.specs.Lists.{listed}
use Rattle.words.specs.Lists.{byte_at}

-- the first string, an empty one where there is none
abbrev pub first_of : List (List ℕ) → List ℕ
first_of [] = []
first_of (t ∷ ts) = t

-- the bytes that the strings have at place k
abbrev pub column_of : List (List ℕ) → ℕ → List ℕ
column_of strings k = map (λ t. byte_at t k) strings

-- the columns of strings of a width
unfoldable pub columns_of : ℕ → List (List ℕ) → List (List ℕ)
columns_of width strings = listed (column_of strings) 0 width

-- all as long as the first
unfoldable pub alike : List (List ℕ) → Bool
alike strings = list_all (λ t. eqb (length t) (length (first_of strings))) strings

-- a family: two or more strings of equal length
unfoldable pub is_family : List (List ℕ) → Bool
is_family strings = ltb 1 (length strings) && alike strings
