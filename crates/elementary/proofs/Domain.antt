-- Where IEEE 754 has no logarithm: below 0 for ln, below -1 for ln(1 + x). Assumes nothing.
use mathlib.Core.Path.{◌≡◌, refl}
use mathlib.Core.Bool.{true}
use lib.Ieee.{Float, nan, lt, le, neg, div, of_bits}
use Rattle.float.specs.Ops.{◌⊘◌, bits, plus_zero, one}
use Rattle.words.proofs.Cases.{and-false}
use Rattle.float.proofs.Order.{nan_not_lt, lt_asym, lt_trans, lt_not_eq, lt_not_le}
use Rattle.elementary.specs.Ln.{ln_of}
use Rattle.elementary.specs.LnOnePlus.{ln_one_plus_of_number, ln_one_plus_of}

zero_by_zero : plus_zero ⊘ plus_zero ≡ nan
unfolding div of_bits
zero_by_zero = refl

-- 0.9375, the least normal number and the largest are above 0
below_one : lt plus_zero (bits 0x3fee_0000_0000_0000) ≡ true
unfolding lt of_bits
below_one = refl

least_normal_lem : lt plus_zero (bits 0x0010_0000_0000_0000) ≡ true
unfolding lt of_bits
least_normal_lem = refl

largest : lt plus_zero (bits 0x7fef_ffff_ffff_ffff) ≡ true
unfolding lt of_bits
largest = refl

-- ln of a negative number is NaN
pub ln_negative : (x : Float) → lt x plus_zero ≡ true → ln_of x ≡ nan
unfolding ln_of
ln_negative x h =
    rw (lt_not_le x _ (lt_trans x plus_zero _ h below_one), lt_not_le x _ (lt_trans x plus_zero _ h least_normal_lem), lt_asym x _ (lt_trans x plus_zero _ h largest), lt_asym x plus_zero h, (lt_not_eq x plus_zero h).0) zero_by_zero

above_minus_one : lt (neg one) (bits 0xbfd2_bec4_0000_0000) ≡ true
unfolding lt neg of_bits
above_minus_one = refl

number_below : (x : Float) → lt x (neg one) ≡ true → ln_one_plus_of_number x ≡ nan
unfolding ln_one_plus_of_number
number_below x h =
    rw (lt_asym x _ (lt_trans x (neg one) (bits 0xbfd2_bec4_0000_0000) h above_minus_one), lt_asym x (neg one) h, (lt_not_eq x (neg one) h).0) zero_by_zero

-- ln(1 + x) is NaN for an x below -1
pub ln_one_plus_below : (x : Float) → lt x (neg one) ≡ true → ln_one_plus_of x ≡ nan
unfolding ln_one_plus_of
ln_one_plus_below x h = rw (number_below x h, nan_not_lt plus_zero, and-false (le plus_zero x))
