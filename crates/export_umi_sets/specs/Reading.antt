-- Sets one after another, each after its length.
use Rattle.std.specs.Prelude.{ℕ, zero, suc, List, [], ◌∷◌, length}
use Rattle.lent_bytes.specs.Bytes.{number_of_bytes}
use Rattle.string_set.specs.Readers.{Taken, taken, short, next, front}

-- a length of four bytes, the low byte first
unfoldable pub set_size : List ℕ → Taken ℕ
set_size r = next (front 4 r) (λ bs s. taken (number_of_bytes bs) s)

-- a set: its length, and that many bytes
unfoldable pub sized_set : List ℕ → Taken (List ℕ)
sized_set r = next (set_size r) (λ n s. front n s)

-- sets until nothing is left, at most n of them
unfoldable pub sets_within : ℕ → List ℕ → Taken (List (List ℕ))
sets_within zero [] = taken [] []
sets_within zero (x ∷ r) = short
sets_within (suc n) [] = taken [] []
sets_within (suc n) (x ∷ r) = next (sized_set (x ∷ r)) (λ a s. next (sets_within n s) (λ l t. taken (a ∷ l) t))

-- all of them: a set takes four bytes or more, so that there are no more of them than bytes
unfoldable pub sets_in : List ℕ → Taken (List (List ℕ))
sets_in s = sets_within (length s) s
