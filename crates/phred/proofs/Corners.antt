-- The corners of phred.rs, computed. Assumes nothing.
use mathlib.Core.Path.{◌≡◌, refl}
use lib.Dec.{T}
use lib.Ieee.{add, sub, mul, div, neg, lt, le, eq, ne, is_nan, of_bits, to_bits, of_int}
use Rattle.float.specs.Ops.{plus_zero}
use Rattle.float.specs.Claims.{same}
use Rattle.words.specs.Claims.{all, every_from}
use Rattle.float.specs.Methods.{abs_of, between_of, floor_of}
use Rattle.elementary_tables.specs.ExpTable.{exp_row_of}
use Rattle.elementary_tables.specs.LnTable.{ln_row_of}
use Rattle.elementary.specs.Fma.{leading_digits, lost_of, product_error_of, fma_small_product_of, fma_large_product_of}
use Rattle.elementary.specs.Exp.{series_of, power_of_two_of, scaled_of, from0_of, near_of, exp_of}
use Rattle.elementary.specs.ExpMinusOne.{correction_of, near_zero_of, shifted_of, exp_minus_one_of}
use Rattle.elementary.specs.LnOnePlus.{reduced_of, expansion_of, joined_of, ln_one_plus_of_number, ln_one_plus_of}
use Rattle.elementary.specs.Ln.{ratio_of, normal_of, ln_of}
use Rattle.phred.specs.Phred.{log1pexp_zero, phred_to_ln_error_prob, ln_one_minus_exp, phred_to_ln_correct_prob, ln_prob_to_phred, log1pexp_of, ln_a_minus_b, ln_sum_exp_general, ln_sum_exp, two_trials, ln_error_prob_two_trials, all_ln_zero, lower_of, lowest_from, start_lane, ln_sum_exp_fold, ln_sum_exp_from, ln_sum_exp_array}
use Rattle.phred.specs.Corners.{comes_back, corners}

pub all_corners : T (all corners)
unfolding add sub mul div neg lt le eq ne is_nan of_bits to_bits of_int leading_digits lost_of product_error_of fma_small_product_of fma_large_product_of exp_row_of series_of power_of_two_of scaled_of from0_of near_of exp_of abs_of between_of floor_of ln_row_of ratio_of normal_of reduced_of expansion_of joined_of ln_one_plus_of_number ln_one_plus_of ln_of correction_of near_zero_of shifted_of exp_minus_one_of phred_to_ln_error_prob ln_one_minus_exp phred_to_ln_correct_prob ln_prob_to_phred log1pexp_of ln_a_minus_b ln_sum_exp_general ln_sum_exp two_trials ln_error_prob_two_trials all_ln_zero lower_of lowest_from start_lane ln_sum_exp_fold ln_sum_exp_from ln_sum_exp_array same every_from comes_back
all_corners = tt

-- log1pexp(0) is ln 2 bit for bit, for either zero
pub log1pexp_zero_lem : log1pexp_of plus_zero ≡ log1pexp_zero
unfolding add sub mul div neg lt le eq ne of_bits to_bits of_int leading_digits lost_of product_error_of fma_small_product_of fma_large_product_of exp_row_of series_of power_of_two_of scaled_of from0_of near_of exp_of between_of reduced_of expansion_of joined_of ln_one_plus_of_number ln_one_plus_of log1pexp_of
log1pexp_zero_lem = refl

pub log1pexp_minus_zero : log1pexp_of (neg plus_zero) ≡ log1pexp_zero
unfolding add sub mul div neg lt le eq ne of_bits to_bits of_int leading_digits lost_of product_error_of fma_small_product_of fma_large_product_of exp_row_of series_of power_of_two_of scaled_of from0_of near_of exp_of between_of reduced_of expansion_of joined_of ln_one_plus_of_number ln_one_plus_of log1pexp_of
log1pexp_minus_zero = refl
