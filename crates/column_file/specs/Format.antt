-- The column file, read off the front of a list of bytes: each section after its count.
use Rattle.std.specs.Prelude.{ℕ, List}
use Rattle.string_set.specs.Readers.{Taken, taken, next, byte, word, front, many}
use Rattle.string_set.specs.StringSet.{string_set}

-- an observation: a base byte and a quality byte
pub record Observation : Type 0 where
  pub base : ℕ
  pub quality : ℕ

unfoldable pub observation : List ℕ → Taken Observation
observation r = next (byte r) (λ b s. next (byte s) (λ q t. taken (record { base = b; quality = q }) t))

-- a column: a two-byte count, and that many observations
unfoldable pub column : List ℕ → Taken (List Observation)
column r = next (word r) (λ n s. many observation n s)

-- the settings: a count byte, and that many bytes
unfoldable pub settings : List ℕ → Taken (List ℕ)
settings r = next (byte r) (λ n s. front n s)

-- the columns: a two-byte count, and that many columns
unfoldable pub columns : List ℕ → Taken (List (List Observation))
columns r = next (word r) (λ n s. many column n s)

-- the settings with the number of columns that follow
unfoldable pub announced : List ℕ → Taken (List ℕ × ℕ)
announced r = next (settings r) (λ a s. next (word s) (λ n t. taken (a, n) t))

-- the three sections of a file
pub record Sections : Type 0 where
  pub settings : List ℕ
  pub columns : List (List Observation)
  pub strings : List (List ℕ)

unfoldable pub sections : List ℕ → Taken Sections
sections r =
    next (settings r) (λ a s.
    next (columns s) (λ c t.
    next (string_set t) (λ l u.
    taken (record { settings = a; columns = c; strings = l }) u)))
