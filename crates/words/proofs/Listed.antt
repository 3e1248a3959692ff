-- A table of what a rule says at each place, and calls of a closure that make one; for any rule. Assumes nothing.
use mathlib.Core.Path.{◌≡◌, refl, sym, ◌∙◌, ap, subst}
use mathlib.Core.List.{List}
use Prim.Native.Nat.{ℕ, zero, suc, ◌+◌, ◌<◌, ◌≤◌}
use native.Mathlib.Nat.{add-zero, zero-add, le_of_suc-le-suc, not-suc-le-zero}
use native.Mathlib.Omega.{arith}
use lib.ListN.{length, get_or}
use lib.Seq.{ext_get_or}
use denote.Param.Members.{Mut, Called}
use Rattle.std.specs.Array.{IsFromFnResult, IsFromFnResultFrom}
use Rattle.words.specs.Lists.{listed}

pub listed_length : {A : Type 0} (f : ℕ → A) (a n : ℕ) → length (listed f a n) ≡ n
unfolding listed
listed_length f a zero = refl
listed_length f a (suc n) = ap suc (listed_length f (a + 1) n)

pub listed_at : {A : Type 0} (f : ℕ → A) (d : A) (a n k : ℕ) → k < n → get_or (listed f a n) k d ≡ f (a + k)
unfolding listed
listed_at f d a zero k h = absurd (not-suc-le-zero h)
listed_at f d a (suc n) zero h = ap f (sym (add-zero a))
listed_at f d a (suc n) (suc k) h =
    let s : a + 1 + k ≡ a + suc k = omega arith in
    listed_at f d (a + 1) n k (le_of_suc-le-suc h) ∙ ap f s

-- the entry at a place
pub level_at : {A : Type 0} (f : ℕ → A) (d : A) (n k : ℕ) → k < n → get_or (listed f 0 n) k d ≡ f k
level_at f d n k h = listed_at f d 0 n k h ∙ ap f (zero-add k)

-- what calls of g at 0, 1 and so on made, where each leaves g's own values as they were
module _ {A F : Type 0} (g : Mut F (ℕ × Unit {0}) A) (own : F) (f : ℕ → A) (d : A) (a n : ℕ) (one : (i : ℕ) (y : A) (q : F) → i < n → Called g own (i, tt) y q → (y ≡ f (a + i)) × (q ≡ own)) where
  called_at : (i m : ℕ) (q : F) (ys : List A) → i + m ≤ n → q ≡ own → IsFromFnResultFrom g q ys i m → (k : ℕ) → k < m → get_or ys (i + k) d ≡ f (a + (i + k))
  called_at i zero q ys l e c k h = absurd (not-suc-le-zero h)
  called_at i (suc m) q ys l e c zero h =
      let o = one i c.1 c.0 (omega arith) (subst (λ (s : F). Called g s (i, tt) c.1 c.0) e c.3) in
      rw (add-zero i) (c.2.1 d ∙ o.0)
  called_at i (suc m) q ys l e c (suc k) h =
      let o = one i c.1 c.0 (omega arith) (subst (λ (s : F). Called g s (i, tt) c.1 c.0) e c.3) in
      let s : i + 1 + k ≡ i + suc k = omega arith in
      let more : i + 1 + m ≤ n = omega arith in
      rw s at (called_at (i + 1) m c.0 ys more o.1 c.4 k (le_of_suc-le-suc h))

  pub listed_by_calls : (ys : List A) → IsFromFnResult g own ys n → ys ≡ listed f a n
  listed_by_calls ys r =
      let all : 0 + n ≤ n = omega arith in
      ext_get_or d ys (listed f a n) (r.long ∙ sym (listed_length f a n))
      (λ k h. let m : k < n = rw r.long at h in rw (zero-add k) at (called_at 0 n own ys all refl r.each k m) ∙ sym (listed_at f d a n k m))

-- a table of what f gives, from its first entry on
pub filled_by_calls : {A F : Type 0} (g : Mut F (ℕ × Unit {0}) A) (own : F) (f : ℕ → A) (d : A) (n : ℕ) → ((i : ℕ) (y : A) (q : F) → i < n → Called g own (i, tt) y q → (y ≡ f i) × (q ≡ own)) → (ys : List A) → IsFromFnResult g own ys n → ys ≡ listed f 0 n
filled_by_calls g own f d n one = listed_by_calls g own f d 0 n (λ i y q l c. let o = one i y q l c in (o.0 ∙ ap f (sym (zero-add i)), o.1))
