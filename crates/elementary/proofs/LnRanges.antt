-- The ranges of `ln` and `ln_1p`: what the tests against one limit say of the others. Assumes nothing.
use mathlib.Core.Path.{◌≡◌, refl}
use mathlib.Core.Bool.{true, false}
use lib.Ieee.{Float, nan, lt, le, eq, neg, is_nan, div, of_bits}
use Rattle.float.specs.Ops.{bits, plus_zero}
use Rattle.float.specs.Methods.{between_of}
use Rattle.std.proofs.Math.Bool.{and-false, and-true}
use Rattle.words.proofs.Cases.{test}
use Rattle.float.proofs.Constants.{minus_infinity, not_a_number}
use Rattle.float.proofs.Order.{lt_numbers, le_numbers, lt_trans, lt-le, lt_asym, lt_not_le, lt_le_lt, not_lt_le, not_le_lt, is_nan_alone}
use Rattle.elementary.specs.Ln.{ln_of}
use Rattle.elementary.proofs.Numbers.{one_not_zero}

-- 0.9375 and 1.0647, the least normal number and the largest
abbrev below_one : Float
below_one = bits 0x3fee_0000_0000_0000

abbrev above_one : Float
above_one = bits 0x3ff1_0900_0000_0000

abbrev least : Float
least = bits 0x0010_0000_0000_0000

abbrev largest : Float
largest = bits 0x7fef_ffff_ffff_ffff

below_one-largest : lt below_one largest ≡ true
unfolding lt of_bits
below_one-largest = refl

least-above_one : lt least above_one ≡ true
unfolding lt of_bits
least-above_one = refl

above_one-number : is_nan above_one ≡ false
unfolding is_nan of_bits
above_one-number = refl

below_one-number : is_nan below_one ≡ false
unfolding is_nan of_bits
below_one-number = refl

largest-number : is_nan largest ≡ false
unfolding is_nan of_bits
largest-number = refl

-- below 0.9375
pub low_below_one : (x : Float) → lt x below_one ≡ true → le below_one x ≡ false
low_below_one x h = lt_not_le x below_one h

pub low_at_most : (x : Float) → lt x below_one ≡ true → le x largest ≡ true
low_at_most x h = lt-le x largest (lt_trans x below_one largest h below_one-largest)

pub low_not_above : (x : Float) → lt x below_one ≡ true → lt largest x ≡ false
low_not_above x h = lt_asym x largest (lt_trans x below_one largest h below_one-largest)

-- from 0.9375 up to 1.0647
pub middle : (x : Float) → lt x below_one ≡ false → lt x above_one ≡ true → le below_one x ≡ true
middle x h k = not_lt_le x below_one (lt_numbers x above_one k).0 below_one-number h

-- from there up to the largest
pub high : (x : Float) → lt x above_one ≡ false → le x largest ≡ true → le least x ≡ true
high x h k = lt-le least x (lt_le_lt least above_one x least-above_one (not_lt_le x above_one (le_numbers x largest k).0 above_one-number h))

ln_of-nan : ln_of nan ≡ nan
unfolding ln_of lt le eq div of_bits
ln_of-nan = refl

-- +infinity, or NaN
pub beyond : (x : Float) → lt x above_one ≡ false → le x largest ≡ false → ln_of x ≡ x
unfolding ln_of
beyond x h k =
    test (is_nan x)
    (λ n. rw (is_nan_alone x n) ln_of-nan)
    (λ n. rw (h, and-false (le below_one x), k, and-false (le least x), not_le_lt x largest n largest-number k))

nan_bits : bits 0x7ff8_0000_0000_0000 ≡ nan
unfolding of_bits
nan_bits = refl

-- neither: NaN
pub beyond_all : (x : Float) → lt x above_one ≡ false → le x largest ≡ false → lt largest x ≡ false → bits 0x7ff8_0000_0000_0000 ≡ ln_of x
beyond_all x h k l =
    test (is_nan x)
    (λ n. rw (is_nan_alone x n, ln_of-nan) nan_bits)
    (λ n. let m : lt largest x ≡ true = not_le_lt x largest n largest-number k in absurd cc)

pub ruleset ln_ranges = (low_below_one, low_at_most, low_not_above, middle, high, beyond, minus_infinity, not_a_number)

-- ---- ln(1 + x): about √½ - 1 and √2 - 1, and 2^-29
abbrev low : Float
low = bits 0xbfd2_bec4_0000_0000

abbrev upper : Float
upper = bits 0x3fda_827a_0000_0000

abbrev tiny : Float
tiny = bits 0x3e20_0000_0000_0000

pub above_low : (x : Float) → le plus_zero x ≡ true → lt low x ≡ true
unfolding lt of_bits
above_low x h = lt_le_lt low plus_zero x refl h

pub from_0_tiny : (x : Float) → le plus_zero x ≡ true → between_of (neg tiny) x tiny ≡ lt x tiny
unfolding between_of lt neg of_bits
from_0_tiny x h = let k : lt (neg tiny) x ≡ true = lt_le_lt (neg tiny) plus_zero x refl h in rw k

-- a number that is not 0 or more is below 0
below_0 : (x : Float) → lt low x ≡ true → le plus_zero x ≡ false → lt x plus_zero ≡ true
unfolding is_nan of_bits
below_0 x h k = not_le_lt plus_zero x refl (lt_numbers low x h).1 k

pub below_upper : (x : Float) → lt low x ≡ true → le plus_zero x ≡ false → lt x upper ≡ true
unfolding lt of_bits
below_upper x h k = lt_trans x plus_zero upper (below_0 x h k) refl

pub below_0_tiny : (x : Float) → lt low x ≡ true → le plus_zero x ≡ false → between_of (neg tiny) x tiny ≡ lt (neg tiny) x
unfolding between_of lt neg of_bits
below_0_tiny x h k = let l : lt x tiny ≡ true = lt_trans x plus_zero tiny (below_0 x h k) refl in rw (l, and-true (lt (neg tiny) x))

pub ruleset from_0_ranges = (above_low, from_0_tiny, one_not_zero, le_numbers)

pub ruleset below_0_ranges = (below_upper, below_0_tiny, lt_numbers, minus_infinity, not_a_number)
