-- For every argument: exp is never below 0 and is NaN at NaN alone, and ln(1 + x) is not below 0 where x is not. Each follows from a last test of
-- the definition. Assumes nothing.
use mathlib.Core.Path.{◌≡◌, refl, sym, ◌∙◌}
use mathlib.Core.Bool.{true, false, ◌&&◌}
use Prim.Native.Nat.{ℕ}
use lib.Ieee.{Float, nan, lt, le, ne, is_nan, div, of_bits}
use Rattle.float.specs.Ops.{bits, plus_zero, plus_infinity}
use Rattle.words.proofs.Cases.{test, choice, both}
use Rattle.float.proofs.Order.{ne_self, nan_alone, nan_not_lt, le_numbers, le_not_lt}
use Rattle.elementary.specs.Exp.{from0_of, lowest_exponent, far_of, steps_of, power_at, row_at, inside, term_of, raised_of, near_of, exp_of}
use Rattle.elementary.specs.LnOnePlus.{ln_one_plus_of_number, ln_one_plus_of}

-- 0 or more, and so no NaN
abbrev From0 : Float → Type 0
From0 y = le plus_zero y ≡ true

zero_from_0 : From0 plus_zero
unfolding le of_bits
zero_from_0 = refl

infinite_from_0 : From0 plus_infinity
unfolding le of_bits div
infinite_from_0 = refl

from_0 : (y : Float) → From0 (from0_of y)
unfolding from0_of
from_0 y = choice From0 (le plus_zero y) y plus_zero (λ t. t) (λ t. zero_from_0)

far_from_0 : (x : Float) (head : ℕ) (t : Float) (k : ℕ) → From0 (far_of x head t k)
far_from_0 x head t k = choice From0 (lt x lowest_exponent) plus_zero _ (λ l. zero_from_0) (λ l. from_0 _)

near_from_0 : (x : Float) → From0 (near_of x)
unfolding near_of
near_from_0 x =
    let m = steps_of x in
    let t = term_of x m in
    let y = raised_of m t in
    choice From0 (inside m && le plus_zero y) y (far_of x (row_at m).head t (power_at m))
    (λ h. (both (inside m) (le plus_zero y) h).1)
    (λ h. far_from_0 x (row_at m).head t (power_at m))

-- the exponential of a number is 0 or more
pub exp_from_0 : (x : Float) → ne x x ≡ false → le plus_zero (exp_of x) ≡ true
unfolding exp_of
exp_from_0 x n = rw n (choice From0 (lt x (bits 0x4086_3000_0000_0000)) (near_of x) plus_infinity (λ h. near_from_0 x) (λ h. infinite_from_0))

exp_at_nan : exp_of nan ≡ nan
unfolding exp_of lt ne
exp_at_nan = refl

exp_of_nan : (x : Float) → ne x x ≡ true → exp_of x ≡ x
exp_of_nan x n = rw (nan_alone x n) exp_at_nan

-- no argument gives an exp below 0
pub exp_not_below : (x : Float) → lt (exp_of x) plus_zero ≡ false
exp_not_below x =
    test (ne x x)
    (λ n. rw (exp_of_nan x n, nan_alone x n) (nan_not_lt plus_zero))
    (λ n. le_not_lt plus_zero (exp_of x) (exp_from_0 x n))

-- exp is NaN at NaN, and nowhere else
pub exp_nan : (x : Float) → is_nan (exp_of x) ≡ is_nan x
exp_nan x =
    test (ne x x)
    (λ n. rw (exp_of_nan x n))
    (λ n. (le_numbers plus_zero (exp_of x) (exp_from_0 x n)).1 ∙ sym (sym (ne_self x) ∙ n))

-- ln(1 + x) is not below 0 for an x from 0 on
pub ln_one_plus_not_below : (x : Float) → le plus_zero x ≡ true → lt (ln_one_plus_of x) plus_zero ≡ false
unfolding ln_one_plus_of
ln_one_plus_not_below x h =
    test (lt (ln_one_plus_of_number x) plus_zero) (λ t. rw (h, t) (le_not_lt plus_zero plus_zero zero_from_0)) (λ t. rw (h, t) t)
