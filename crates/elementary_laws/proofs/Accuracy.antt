-- The claims of SCOPE 8 on the four functions, computed. A declaration may take 50 million steps, so each claim is one of its own, or two, and
-- `accuracy` joins them. Assumes nothing.
use lib.Dec.{T}
use lib.Ieee.{add, sub, mul, div, neg, lt, le, eq, ne, of_bits, to_bits, of_int}
use lib.Ieee.Fits.{and_i}
use Rattle.float.specs.Claims.{same}
use Rattle.words.specs.Claims.{all, every_from}
use Rattle.float.specs.Methods.{between_of}
use Rattle.elementary_tables.specs.ExpTable.{exp_row_of}
use Rattle.elementary_tables.specs.LnTable.{ln_row_of}
use Rattle.elementary.specs.Fma.{leading_digits, lost_of, product_error_of, fma_small_product_of, fma_large_product_of}
use Rattle.elementary.specs.Exp.{series_of, power_of_two_of, scaled_of, from0_of, near_of, exp_of}
use Rattle.elementary.specs.ExpMinusOne.{correction_of, near_zero_of, shifted_of, exp_minus_one_of}
use Rattle.elementary.specs.LnOnePlus.{reduced_of, expansion_of, joined_of, ln_one_plus_of_number, ln_one_plus_of}
use Rattle.elementary.specs.Ln.{ratio_of, normal_of, ln_of}
use Rattle.elementary.proofs.Signs.{exp_not_below}
use Rattle.phred.specs.Phred.{phred_to_ln_error_prob}
use Rattle.elementary_laws.specs.Fraction.{power}
use Rattle.elementary_laws.specs.Claims.{exp_at_level, ln_at_level, exp_minus_one_at_level, ln_one_plus_at_power, exp_minus_one_at_power, named, ExpNeverBelow0, claims}

exp_levels : T (every_from exp_at_level 0 94)
unfolding add sub mul div neg lt le eq ne of_bits to_bits of_int leading_digits lost_of product_error_of fma_small_product_of exp_row_of series_of power_of_two_of scaled_of from0_of near_of exp_of every_from power phred_to_ln_error_prob exp_at_level
exp_levels = tt

ln_levels : T (every_from ln_at_level 0 94)
unfolding add sub mul div neg lt le eq ne of_bits to_bits of_int leading_digits lost_of product_error_of fma_small_product_of fma_large_product_of exp_row_of series_of power_of_two_of scaled_of from0_of near_of exp_of between_of ln_row_of ratio_of normal_of reduced_of expansion_of joined_of ln_one_plus_of_number ln_one_plus_of ln_of every_from phred_to_ln_error_prob ln_at_level
ln_levels = tt

exp_minus_one_levels : T (every_from exp_minus_one_at_level 0 94)
unfolding add sub mul div neg lt le eq ne of_bits to_bits of_int leading_digits lost_of product_error_of fma_small_product_of fma_large_product_of exp_row_of series_of power_of_two_of scaled_of from0_of near_of exp_of between_of correction_of near_zero_of shifted_of exp_minus_one_of every_from phred_to_ln_error_prob exp_minus_one_at_level
exp_minus_one_levels = tt

ln_one_plus_powers : T (every_from ln_one_plus_at_power 20 41)
unfolding add sub mul div neg lt le eq ne of_bits to_bits of_int leading_digits lost_of product_error_of fma_large_product_of power_of_two_of between_of reduced_of expansion_of joined_of ln_one_plus_of_number ln_one_plus_of every_from ln_one_plus_at_power
ln_one_plus_powers = tt

exp_minus_one_powers : T (every_from exp_minus_one_at_power 20 41)
unfolding add sub mul div neg lt le eq ne of_bits to_bits of_int leading_digits lost_of product_error_of fma_small_product_of fma_large_product_of power_of_two_of between_of correction_of near_zero_of shifted_of exp_minus_one_of every_from exp_minus_one_at_power
exp_minus_one_powers = tt

named_values : T (all named)
unfolding add sub mul div neg lt le eq ne of_bits to_bits of_int leading_digits lost_of product_error_of fma_small_product_of fma_large_product_of exp_row_of series_of power_of_two_of scaled_of from0_of near_of exp_of between_of ln_row_of ratio_of normal_of reduced_of expansion_of joined_of ln_one_plus_of_number ln_one_plus_of ln_of correction_of near_zero_of shifted_of exp_minus_one_of same
named_values = tt

-- SCOPE 8.3, for every argument
pub exp_never_below_0 : ExpNeverBelow0
exp_never_below_0 = exp_not_below

-- every claim of SCOPE 8 that is computed
pub accuracy : T (all claims)
accuracy =
    and_i (every_from exp_at_level 0 94) _ exp_levels
    (and_i (every_from ln_at_level 0 94) _ ln_levels
    (and_i (every_from exp_minus_one_at_level 0 94) _ exp_minus_one_levels
    (and_i (every_from ln_one_plus_at_power 20 41) _ ln_one_plus_powers
    (and_i (every_from exp_minus_one_at_power 20 41) (all named) exp_minus_one_powers named_values))))
