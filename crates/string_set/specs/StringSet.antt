-- A string set in its file form.
use Rattle.std.specs.Prelude.{ℕ, List}
use Rattle.refusals.specs.Result.{Result}
use Rattle.string_set.specs.Readers.{Taken, next, byte, front, many, lone}

-- a string: a length byte, and that many bytes
unfoldable pub string : List ℕ → Taken (List ℕ)
string r = next (byte r) (λ n s. front n s)

-- a string set: a count byte, and that many strings
unfoldable pub string_set : List ℕ → Taken (List (List ℕ))
string_set r = next (byte r) (λ n s. many string n s)

-- a lone set: its strings, or 1 where it has over 65,536 bytes, or 2 where they do not make up a set
unfoldable pub read_set : List ℕ → Result (List (List ℕ))
read_set s = lone string_set s
