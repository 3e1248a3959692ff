-- The items of a script, one after another. Assumes nothing.
use Rattle.std.proofs.Common.{◌≡◌, ℕ, ◌+◌, ◌<◌, ◌≤◌, List, [], ◌∷◌, length, get_or, take, drop, refl, arith}
use Rattle.export_scripts.specs.Item.{item_of}
use Rattle.export_scripts.specs.Script.{items}

-- three bytes are an item
pub items_first : (s : List ℕ) → 3 ≤ length s → items s ≡ item_of (get_or (take 3 s) 0 0) (get_or (take 3 s) 1 0) (get_or (take 3 s) 2 0) ∷ items (drop 3 s)
unfolding items
items_first [] h = absurd (omega arith)
items_first (k ∷ []) h = absurd (omega arith)
items_first (k ∷ a ∷ []) h = absurd (omega arith)
items_first (k ∷ a ∷ b ∷ s) h = refl

-- fewer are none
pub items_none : (s : List ℕ) → length s < 3 → items s ≡ []
unfolding items
items_none [] h = refl
items_none (k ∷ []) h = refl
items_none (k ∷ a ∷ []) h = refl
items_none (k ∷ a ∷ b ∷ s) h = absurd (omega arith)

-- the walk goes on
pub items_shrink : (s r : List ℕ) → r ≡ drop 3 s → length r + 3 ≡ length s → length (items r) < length (items s)
items_shrink s r e h = rw (e, items_first s (omega arith)) (omega arith)

-- there are no more of them than bytes
pub items_few : (s : List ℕ) → length (items s) ≤ length s
unfolding items
items_few [] = omega arith
items_few (k ∷ []) = omega arith
items_few (k ∷ a ∷ []) = omega arith
items_few (k ∷ a ∷ b ∷ s) = omega (arith, items_few s)
