-- What a closure makes of each number below n in turn, for `std::array::from_fn`. Assumes nothing.
use mathlib.Core.Path.{◌≡◌, refl, sym, ◌∙◌, subst}
use mathlib.Core.Logic.{inl, inr}
use mathlib.Core.List.{List}
use Prim.Native.Nat.{ℕ, zero, suc, ◌+◌, ◌≤◌, ◌<◌}
use native.Mathlib.Nat.{eq-or-lt_of_le}
use native.Mathlib.Omega.{arith}
use lib.ListN.{get_or}
use lib.Seq.{ext_get_or}
use Rattle.std.specs.Fn.{Called, Mut}
use Rattle.std.specs.Array.{IsFromFnResult, IsFromFnResultFrom}
use Rattle.words.specs.Lists.{listed}
use Rattle.words.proofs.Listed.{listed_length, level_at}

-- each call gives what f says, and leaves the closure as it was
module _ {C B : Type 0} (none : B) (g : Mut C (ℕ × Unit {0}) B) (c : C) (f : ℕ → B) (n : ℕ)
    (gives : (i : ℕ) (y : B) (d : C) → i < n → Called g c (i, tt) y d → (d ≡ c) × (y ≡ f i)) where
  made_from : (ys : List B) (d : C) (i m : ℕ) → d ≡ c → i + m ≤ n → IsFromFnResultFrom g d ys i m → (k : ℕ) → i ≤ k → k < i + m → get_or ys k none ≡ f k
  made_from ys d i zero e h made k l o = absurd (omega arith)
  made_from ys d i (suc m) e h (q, y, here, called, rest) k l o =
      let gave = gives i y q (omega arith) (subst (λ d. Called g d (i, tt) y q) e called) in
      elim (eq-or-lt_of_le l) [
        | inl i-k ↦ subst (λ (j : ℕ). get_or ys j none ≡ f j) i-k (here.1 none ∙ gave.1)
        | inr above ↦ made_from ys q (i + 1) m gave.0 (omega arith) rest k (omega arith) (omega arith)
      ]

  pub made : (ys : List B) → IsFromFnResult g c ys n → ys ≡ listed f 0 n
  made ys m =
      ext_get_or none ys (listed f 0 n) (m.long ∙ sym (listed_length f 0 n))
      (λ k l. let below : k < n = omega (arith, m.long) in made_from ys c 0 n refl (omega arith) m.each k (omega arith) (omega arith) ∙ sym (level_at f none n k below))
