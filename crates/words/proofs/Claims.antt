-- A claim that is computed in parts holds on the whole, and at each place. Assumes nothing.
use mathlib.Core.Path.{◌≡◌, refl, subst}
use mathlib.Core.Bool.{Bool}
use Prim.Native.Nat.{ℕ, zero, suc, ◌+◌, ◌<◌}
use native.Mathlib.Nat.{le_of_suc-le-suc, not-suc-le-zero}
use native.Mathlib.Omega.{arith}
use lib.Dec.{T}
use lib.Ieee.Fits.{and_i, and_l, and_r}
use Rattle.words.specs.Claims.{every_from}

-- the same claims, their first and their number written otherwise
recount : (f : ℕ → Bool) (a b m n : ℕ) → a ≡ b → m ≡ n → T (every_from f a m) → T (every_from f b n)
recount f a b m n d e t = subst (λ (k : ℕ). T (every_from f b k)) e (subst (λ (k : ℕ). T (every_from f k m)) d t)

-- m of them, and the n after these
pub join : (f : ℕ → Bool) (a m n : ℕ) → T (every_from f a m) → T (every_from f (a + m) n) → T (every_from f a (m + n))
unfolding every_from
join f a zero n s t = recount f (a + 0) a n (zero + n) (omega arith) (omega arith) t
join f a (suc m) n s t =
    recount f a a (suc (m + n)) (suc m + n) refl (omega arith)
    (and_i (f a) (every_from f (a + 1) (m + n)) (and_l (f a) (every_from f (a + 1) m) s)
    (join f (a + 1) m n (and_r (f a) (every_from f (a + 1) m) s) (recount f (a + suc m) (a + 1 + m) n n (omega arith) refl t)))

-- at one of them
pub at : (f : ℕ → Bool) (a n : ℕ) → T (every_from f a n) → (k : ℕ) → k < n → T (f (a + k))
unfolding every_from
at f a zero t k h = absurd (not-suc-le-zero h)
at f a (suc n) t zero h =
    let e : a ≡ a + 0 = omega arith in
    subst (λ (j : ℕ). T (f j)) e (and_l (f a) (every_from f (a + 1) n) t)
at f a (suc n) t (suc k) h =
    let e : a + 1 + k ≡ a + suc k = omega arith in
    subst (λ (j : ℕ). T (f j)) e (at f (a + 1) n (and_r (f a) (every_from f (a + 1) n) t) k (le_of_suc-le-suc h))

-- at one of those from 0 on
pub below : (f : ℕ → Bool) (n : ℕ) → T (every_from f 0 n) → (k : ℕ) → k < n → T (f k)
below f n t k h =
    let e : 0 + k ≡ k = omega arith in
    subst (λ (j : ℕ). T (f j)) e (at f 0 n t k h)
