-- Sums that are held to a modulus. Assumes nothing.
use mathlib.Core.Path.{◌≡◌, sym, ◌∙◌, ap}
use Prim.Native.Nat.{ℕ, ◌+◌, ◌*◌, ◌%◌, ◌<◌}
use native.Mathlib.Nat.{mod-add-mod, mod-eq_of_lt, add_assoc, add-zero, suc-mul}
use native.Mathlib.Numerals.{add-one}

-- at each step
pub wrapped : (a x r m : ℕ) → ((a + x) % m + r) % m ≡ (a + (x + r)) % m
wrapped a x r m = mod-add-mod (a + x) m r ∙ ap (λ (k : ℕ). k % m) (add_assoc a x r)

-- where nothing is left to add, the sum is whole
pub all_added_lem : (a r w m : ℕ) → a < m → r ≡ 0 → (a + r) % m ≡ w → a ≡ w
all_added_lem a r w m h z e = sym (mod-eq_of_lt h) ∙ ap (λ (k : ℕ). k % m) (sym (add-zero a)) ∙ ap (λ (k : ℕ). (a + k) % m) (sym z) ∙ e

-- one round more
pub once_more : (n w m : ℕ) → (n * w % m + w) % m ≡ (n + 1) * w % m
once_more n w m = mod-add-mod (n * w) m w ∙ ap (λ (k : ℕ). k % m) (sym (suc-mul n w) ∙ ap (λ (k : ℕ). k * w) (sym (add-one n)))
