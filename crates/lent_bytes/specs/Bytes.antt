-- The bytes of parts and of numbers.
use Rattle.std.specs.Prelude.{ℕ, zero, suc, ◌+◌, ◌*◌, ◌/◌, ◌%◌, List, [], ◌∷◌, ◌++◌, take, drop}

-- the bytes of parts, one after another
abbrev pub joined : {A : Type 0} → (A → List ℕ) → List A → List ℕ
joined bytes [] = []
joined bytes (a ∷ l) = bytes a ++ joined bytes l

-- a number as n bytes, the low byte first
unfoldable pub number_bytes : ℕ → ℕ → List ℕ
number_bytes zero x = []
number_bytes (suc n) x = x % 256 ∷ number_bytes n (x / 256)

-- in four
abbrev pub four_bytes : ℕ → List ℕ
four_bytes x = number_bytes 4 x

-- the number that such bytes are
unfoldable pub number_of_bytes : List ℕ → ℕ
number_of_bytes [] = 0
number_of_bytes (b ∷ bs) = b + 256 * number_of_bytes bs

-- of the n bytes at a place; a byte that is missing counts as 0
unfoldable pub number_at : List ℕ → ℕ → ℕ → ℕ
number_at s n at = number_of_bytes (take n (drop at s))
