-- Claims that are computed: a Bool each, in lists and ranges.
use Rattle.std.specs.Prelude.{ℕ, zero, suc, ◌+◌, Bool, true, ◌&&◌, List, [], ◌∷◌}

-- each of the claims holds
abbrev pub all : List Bool → Bool
all [] = true
all (b ∷ bs) = b && all bs

-- the claim f holds at a, a + 1 and so on, n of them
unfoldable pub every_from : (ℕ → Bool) → ℕ → ℕ → Bool
every_from f a zero = true
every_from f a (suc n) = f a && every_from f (a + 1) n

-- the claim p holds of every number below n
unfoldable pub all_below : ℕ → (ℕ → Bool) → Bool
all_below zero p = true
all_below (suc n) p = all_below n p && p n
