-- Four lanes that a closure makes, called at each lane in turn, and four that it makes of others. Assumes nothing.
use mathlib.Core.Path.{◌≡◌, refl, sym, ap, ◌∙◌, subst}
use mathlib.Core.Logic.{inl, inr}
use mathlib.Core.List.{List}
use Prim.Native.Nat.{ℕ, zero, suc, ◌+◌, ◌≤◌, ◌<◌}
use native.Mathlib.Nat.{eq-or-lt_of_le}
use native.Mathlib.Omega.{arith}
use lib.ListN.{length, get_or}
use lib.Seq.{ext_get_or}
use Rattle.std.specs.Fn.{Called, Mut}
use Rattle.std.specs.Array.{IsFromFnResult, IsMapOf, MapsFrom}
use Rattle.words.specs.Lists.{listed}
use Rattle.words.proofs.Listed.{filled_by_calls}
use Rattle.tie_rules.specs.Lanes.{lanes}
use Rattle.tie_rules.proofs.Lanes.{lanes_at}

-- a list of four is its lanes
lanes_of : {A : Type 0} (f : ℕ → A) (ys : List A) → length ys ≡ 4 → ((k : ℕ) → k < 4 → get_or ys k (f 0) ≡ f k) → ys ≡ lanes f
unfolding lanes
lanes_of f ys long at = ext_get_or (f 0) ys (lanes f) long (λ k l. let h : k < 4 = omega arith in at k h ∙ sym (lanes_at f (f 0) k h))

-- each call at a lane gives what f says, and leaves the closure as it was
pub made : {B C : Type 0} (g : Mut C (ℕ × Unit {0}) B) (c : C) (f : ℕ → B) → ((i : ℕ) (y : B) (d : C) → i < 4 → Called g c (i, tt) y d → (y ≡ f i) × (d ≡ c)) → (ys : List B) → IsFromFnResult g c ys 4 → ys ≡ lanes f
unfolding lanes listed
made g c f gives = filled_by_calls g c f (f 0) 4 gives

-- each call at a value gives what h says of it
module _ {A B C : Type 0} (g : Mut C (A × Unit {0}) B) (c : C) (h : A → B) (gives : (x : A) (y : B) (d : C) → Called g c (x, tt) y d → (y ≡ h x) × (d ≡ c)) (f : ℕ → A) where
  mapped_from : (ys : List B) (d : C) (i n : ℕ) → d ≡ c → i + n ≤ 4 → MapsFrom g d (lanes f) ys i n → (k : ℕ) → i ≤ k → k < i + n → get_or ys k (h (f 0)) ≡ h (f k)
  mapped_from ys d i zero e l m k a b = absurd (omega arith)
  mapped_from ys d i (suc n) e l (q, x, y, from, here, called, rest) k a b =
      let gave = gives x y q (subst (λ d. Called g d (x, tt) y q) e called) in
      elim (eq-or-lt_of_le a) [
        | inl i-k ↦ subst (λ (j : ℕ). get_or ys j (h (f 0)) ≡ h (f j)) i-k (here.1 (h (f 0)) ∙ gave.0 ∙ ap h (sym (from.1 (f 0)) ∙ lanes_at f (f 0) i (omega arith)))
        | inr above ↦ mapped_from ys q (i + 1) n gave.1 (omega arith) rest k (omega arith) (omega arith)
      ]

  pub mapped : (xs : List A) (ys : List B) → xs ≡ lanes f → IsMapOf g c xs ys 4 → ys ≡ lanes (λ i. h (f i))
  mapped xs ys e m = lanes_of (λ i. h (f i)) ys m.long (λ k l. mapped_from ys c 0 4 refl (omega arith) (subst (λ xs. MapsFrom g c xs ys 0 4) e m.each) k (omega arith) l)
