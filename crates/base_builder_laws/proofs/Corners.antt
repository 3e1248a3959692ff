-- Corners of base_builder.rs: what a lane gets at post-UMI rate 0, and that a lane at -infinity is NaN after the next counted base. Assumes nothing.
use mathlib.Core.Path.{◌≡◌, refl, ap, ◌∙◌}
use mathlib.Core.Bool.{true, false}
use Prim.Native.Nat.{ℕ, ◌≤◌, min}
use native.Mathlib.Omega.{arith}
use borrow.Author.Tests.{ltb-true, ltb-false, le-leb}
use lib.Dec.{T, ltb}
use lib.Ieee.{Float, nan, inf, fin, add, sub, mul, div, neg, lt, le, eq, ne, is_nan, of_bits, to_bits, of_int}
use Rattle.float.specs.Ops.{◌⊕◌, ◌⊖◌}
use Rattle.words.specs.Claims.{all, every_from}
use Rattle.words.proofs.Cases.{test}
use Rattle.words.proofs.Claims.{below}
use Rattle.float.specs.Methods.{abs_of, between_of, floor_of}
use Rattle.elementary_tables.specs.ExpTable.{exp_row_of}
use Rattle.elementary_tables.specs.LnTable.{ln_row_of}
use Rattle.elementary.specs.Fma.{leading_digits, lost_of, product_error_of, fma_small_product_of, fma_large_product_of}
use Rattle.elementary.specs.Exp.{series_of, power_of_two_of, scaled_of, from0_of, near_of, exp_of}
use Rattle.elementary.specs.ExpMinusOne.{correction_of, near_zero_of, shifted_of, exp_minus_one_of}
use Rattle.elementary.specs.LnOnePlus.{reduced_of, expansion_of, joined_of, ln_one_plus_of_number, ln_one_plus_of}
use Rattle.elementary.specs.Ln.{ratio_of, normal_of, ln_of}
use Rattle.phred.specs.Phred.{ln_zero, phred_to_ln_error_prob, ln_one_minus_exp, ln_not, log1pexp_of, ln_a_minus_b, ln_sum_exp_general, ln_sum_exp, two_trials, ln_error_prob_two_trials}
use Rattle.rate_tables.specs.Adjusted.{adjusted_error, correct_at, error_per_alt_at, adjusted_tables}
use Rattle.words.specs.Lists.{listed}
use Rattle.lane_sums.specs.Observation.{moved_by}
use Rattle.base_builder_laws.specs.Corners.{sinks_at, about_ln, at_quality0, NanAfter}

sinks : T (every_from sinks_at 0 94)
unfolding add sub mul div neg lt le eq ne is_nan of_bits to_bits of_int leading_digits lost_of product_error_of fma_small_product_of fma_large_product_of exp_row_of series_of power_of_two_of scaled_of from0_of near_of exp_of abs_of between_of floor_of ln_row_of ratio_of normal_of reduced_of expansion_of joined_of ln_one_plus_of_number ln_one_plus_of ln_of correction_of near_zero_of shifted_of exp_minus_one_of phred_to_ln_error_prob ln_one_minus_exp ln_not log1pexp_of ln_a_minus_b ln_sum_exp_general ln_sum_exp two_trials ln_error_prob_two_trials adjusted_error correct_at listed adjusted_tables sinks_at every_from
sinks = tt

-- a quality above 93 is read at entry 93, and is 27 or more as that is
sinks_above : (q : ℕ) → 94 ≤ q → T (sinks_at q)
unfolding sinks_at
sinks_above q h =
    let e : min q 93 ≡ 93 = omega arith in
    rw (e, le-leb 27 q (omega arith)) (below sinks_at 94 sinks 93 (omega arith))

-- at post-UMI rate 0 the matching lane gets -infinity exactly at qualities of 27 and more
pub sinks_from_27 : (q : ℕ) → T (sinks_at q)
sinks_from_27 q = test (ltb q 94) (λ h. below sinks_at 94 sinks q (ltb-true q 94 h)) (λ h. sinks_above q (ltb-false q 94 h))

-- and at quality 0 about ln(1/3), the others about ln(2/9)
pub at_quality_0 : T (all at_quality0)
unfolding add sub mul div neg lt le eq ne is_nan of_bits to_bits of_int leading_digits lost_of product_error_of fma_small_product_of fma_large_product_of exp_row_of series_of power_of_two_of scaled_of from0_of near_of exp_of abs_of between_of floor_of ln_row_of ratio_of normal_of reduced_of expansion_of joined_of ln_one_plus_of_number ln_one_plus_of ln_of correction_of near_zero_of shifted_of exp_minus_one_of phred_to_ln_error_prob ln_one_minus_exp ln_not log1pexp_of ln_a_minus_b ln_sum_exp_general ln_sum_exp two_trials ln_error_prob_two_trials adjusted_error correct_at error_per_alt_at listed adjusted_tables about_ln
at_quality_0 = tt

-- a value of -infinity leaves a compensation that is no number, whatever lane and compensation were
sunk : (l c : Float) → (moved_by ln_zero (record { lane = l; compensation = c })).compensation ≡ nan
unfolding moved_by add sub div neg of_bits
sunk nan nan = refl
sunk nan (inf true) = refl
sunk nan (inf false) = refl
sunk nan (fin t n d) = refl
sunk (inf s) nan = refl
sunk (inf true) (inf true) = refl
sunk (inf true) (inf false) = refl
sunk (inf true) (fin t n d) = refl
sunk (inf false) (inf true) = refl
sunk (inf false) (inf false) = refl
sunk (inf false) (fin t n d) = refl
sunk (fin s m e) nan = refl
sunk (fin s m e) (inf true) = refl
sunk (fin s m e) (inf false) = refl
sunk (fin s m e) (fin t n d) = refl

-- NaN spreads
less_nan : (v : Float) → v ⊖ nan ≡ nan
unfolding sub
less_nan nan = refl
less_nan (inf s) = refl
less_nan (fin s m e) = refl

and_nan : (l : Float) → l ⊕ nan ≡ nan
unfolding add
and_nan nan = refl
and_nan (inf s) = refl
and_nan (fin s m e) = refl

pub nan_after : NanAfter
unfolding moved_by
nan_after v s =
    ap (λ (c : Float). (moved_by ln_zero s).lane ⊕ (v ⊖ c)) (sunk s.lane s.compensation)
    ∙ ap (λ (y : Float). (moved_by ln_zero s).lane ⊕ y) (less_nan v)
    ∙ and_nan (moved_by ln_zero s).lane
