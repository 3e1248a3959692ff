-- What the definitions on lanes say of an arbitrary lane. Assumes nothing.
use mathlib.Core.Path.{◌≡◌, refl, ap, ◌∙◌}
use mathlib.Core.Bool.{Bool, true, false, ◌&&◌, ◌||◌}
use mathlib.Core.Logic.{inl, inr}
use Prim.Native.Nat.{ℕ, zero, suc, ◌-◌, ◌≤◌, ◌<◌}
use native.Mathlib.Nat.{eq-or-lt_of_le, le_of_suc-le-suc}
use native.Mathlib.Omega.{arith}
use borrow.Author.Tests.{eqb-true, eqb-false, not-true}
use lib.Dec.{eqb}
use lib.ListN.{get_or}
use Rattle.std.specs.Prelude.{if◌then◌else◌}
use Rattle.std.specs.List.{list_all, range_with_len}
use Rattle.words.proofs.Cases.{both}
use Rattle.tie_rules.specs.Lanes.{lanes, no_lane, lane_of_byte, is_base, lanes_after}
use Rattle.words.specs.Claims.{all_below}

-- a test of each of the four lanes, in their order, is the claim on all
four_tests : (a b c d : Bool) → (a && (b && (c && (d && true)))) ≡ (true && a && b && c && d)
four_tests false b c d = refl
four_tests true false c d = refl
four_tests true true false d = refl
four_tests true true true false = refl
four_tests true true true true = refl

pub each_lane : (p : ℕ → Bool) → list_all p (range_with_len 0 4) ≡ all_below 4 p
unfolding all_below
each_lane p = four_tests (p 0) (p 1) (p 2) (p 3)

-- what holds below n holds of each
pub below_at : (n : ℕ) (p : ℕ → Bool) (j : ℕ) → all_below n p ≡ true → j < n → p j ≡ true
unfolding all_below
below_at zero p j t h = absurd (omega arith)
below_at (suc n) p j t h = elim (eq-or-lt_of_le (le_of_suc-le-suc h)) [
  | inl e ↦ ap p e ∙ (both (all_below n p) (p n) t).1
  | inr l ↦ below_at n p j (both (all_below n p) (p n) t).0 l
]

-- from each to all
pub below_all : (n : ℕ) (p : ℕ → Bool) → ((j : ℕ) → j < n → p j ≡ true) → all_below n p ≡ true
unfolding all_below
below_all zero p f = refl
below_all (suc n) p f = rw (below_all n p (λ j h. f j (omega arith))) (f n (omega arith))

-- what holds of the four lanes
pub four : (P : ℕ → Type 0) → P 0 → P 1 → P 2 → P 3 → (i : ℕ) → i < 4 → P i
four P a c g t zero h = a
four P a c g t (suc zero) h = c
four P a c g t (suc (suc zero)) h = g
four P a c g t (suc (suc (suc zero))) h = t
four P a c g t (suc (suc (suc (suc i)))) h = absurd (omega arith)

-- what lane i of four holds
pub lanes_at : {A : Type 0} (f : ℕ → A) (d : A) (i : ℕ) → i < 4 → get_or (lanes f) i d ≡ f i
unfolding lanes
lanes_at f d = four (λ (i : ℕ). get_or (lanes f) i d ≡ f i) refl refl refl refl

-- ---- the lane of a byte

first_of : (a b c d : Bool) → (if a then 0 else if b then 1 else if c then 2 else if d then 3 else 4) ≤ 4
first_of true b c d = omega arith
first_of false true c d = omega arith
first_of false false true d = omega arith
first_of false false false true = omega arith
first_of false false false false = omega arith

-- it is one of the four, or none
lane_of_byte_lem : (x : ℕ) → lane_of_byte x ≤ 4
unfolding lane_of_byte
lane_of_byte_lem x = first_of (eqb x 65 || eqb x 97) (eqb x 67 || eqb x 99) (eqb x 71 || eqb x 103) (eqb x 84 || eqb x 116)

-- a byte that has a lane has one of the four
pub in_lane : (x : ℕ) → eqb (lane_of_byte x) no_lane ≡ false → lane_of_byte x < 4
in_lane x t = omega (arith, lane_of_byte_lem x, eqb-false (lane_of_byte x) no_lane t)

-- a byte has no lane, or as many come after its lane as its bits say
bits_right : ℕ → Bool
bits_right x = eqb (lane_of_byte x) no_lane || eqb (lanes_after x) (3 - lane_of_byte x)

-- computed for each byte
all_right : all_below 256 bits_right ≡ true
unfolding all_below bits_right lane_of_byte lanes_after
all_right = refl

pub after_base : (x : ℕ) → x < 256 → is_base x ≡ true → lanes_after x ≡ 3 - lane_of_byte x
unfolding bits_right
after_base x h n = eqb-true (lanes_after x) (3 - lane_of_byte x) (rw (not-true (eqb (lane_of_byte x) no_lane) n) at (below_at 256 bits_right x all_right h))
