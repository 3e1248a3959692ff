-- Which products and sums are no NaN, and two laws of the order of floats. Assumes nothing.
use mathlib.Core.Path.{◌≡◌, refl}
use mathlib.Core.Bool.{Bool, true, false, not, cond}
use Prim.Native.Nat.{◌*◌}
use lib.Dec.{T, eqb}
use lib.Ieee.{Float, nan, inf, fin, binary64, up, down, unlike, mul, eq, is_nan, of_bits}
use Rattle.float.specs.Ops.{◌⊗◌, plus_zero, one}
use Rattle.elementary_tables.proofs.Heads.{head_from_1, head_below_2}
use Rattle.float.proofs.Constants.{infinity}
use Rattle.float.proofs.Patterns.{no_nan}
use Rattle.float.proofs.Order.{ne_self, lt_numbers, le_numbers, lt_trans, eq_lt, le_not_lt, le_or, not_lt_le, round_has, not_nan_add}
use Rattle.elementary.specs.Exp.{shift, steps_of}

-- finite and not 0
abbrev pub some : Float → Bool
some nan = false
some (inf s) = false
some (fin s n d) = not (eqb n 0)

infinite_number : (b u : Bool) → T (not b) → is_nan (cond b nan (inf u)) ≡ false
unfolding is_nan
infinite_number true u k = absurd k
infinite_number false u k = refl

-- a number times such a one is a number
pub not_nan_mul : (x c : Float) → T (some c) → is_nan x ≡ false → is_nan (x ⊗ c) ≡ false
unfolding mul is_nan
not_nan_mul x nan k h = absurd k
not_nan_mul x (inf s) k h = absurd k
not_nan_mul nan (fin s n d) k h = h
not_nan_mul (inf t) (fin s n d) k h = infinite_number (eqb n 0) (unlike t s) k
not_nan_mul (fin t m e) (fin s n d) k h =
    round_has (λ y. is_nan y ≡ false) (unlike t s) (λ i j. refl) refl binary64 (m * up e * (n * up d)) (down e * down d)

-- exp's sum is a number for every number
pub steps_number : (x : Float) → is_nan x ≡ false → is_nan (steps_of x) ≡ false
unfolding of_bits
steps_number x h = not_nan_add _ shift tt (not_nan_mul x _ tt h)

-- 0 is equal to itself, and 1 is not
pub one_not_zero : eq one plus_zero ≡ false
unfolding eq of_bits
one_not_zero = refl

pub zero_equal : eq plus_zero plus_zero ≡ true
unfolding eq of_bits
zero_equal = refl

-- what `exp` and `near` of exponential.rt need beside their definitions
pub ruleset ends_of_exp = (ne_self, infinity)

pub ruleset sums_of_exp = (steps_number, head_from_1, head_below_2, no_nan)
