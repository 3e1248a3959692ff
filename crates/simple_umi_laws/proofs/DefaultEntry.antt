-- What an observation adds at the default rate and quality, computed. Assumes nothing.
use mathlib.Core.Path.{◌≡◌, refl, ◌∙◌}
use Prim.Native.Nat.{min}
use lib.Dec.{lit<}
use lib.Ieee.{Float, nan, sub, mul, div, le, ne, of_bits, to_bits, of_int}
use lib.ListN.{get_or}
use Rattle.float.specs.Ops.{bits}
use Rattle.float.specs.Methods.{between_of}
use Rattle.elementary_tables.specs.ExpTable.{exp_row_of}
use Rattle.elementary_tables.specs.LnTable.{ln_row_of}
use Rattle.elementary.specs.Fma.{leading_digits, lost_of, product_error_of, fma_small_product_of, fma_large_product_of}
use Rattle.elementary.specs.Exp.{series_of, power_of_two_of, scaled_of, from0_of, near_of, exp_of}
use Rattle.elementary.specs.LnOnePlus.{reduced_of, expansion_of, joined_of, ln_one_plus_of_number, ln_one_plus_of}
use Rattle.elementary.specs.Ln.{ratio_of, normal_of, ln_of}
use Rattle.phred.specs.Phred.{phred_to_ln_error_prob, ln_one_minus_exp, ln_not, two_trials, ln_error_prob_two_trials}
use Rattle.rate_tables.specs.Adjusted.{adjusted_error, correct_at, error_per_alt_at, adjusted_tables}
use Rattle.words.proofs.Listed.{level_at}

-- -0.01005.., of no error, and -5.70.., of an error to one of three bases
abbrev pub right : Float
right = bits 0xbf84_9545_3e6f_d4b4

abbrev pub wrong : Float
wrong = bits 0xc016_d0ac_5a60_95d9

pub correct_20 : correct_at 90 20 ≡ right
unfolding sub mul div le ne of_bits to_bits of_int leading_digits lost_of product_error_of fma_small_product_of fma_large_product_of exp_row_of series_of power_of_two_of scaled_of from0_of near_of exp_of between_of reduced_of expansion_of joined_of ln_one_plus_of_number ln_one_plus_of phred_to_ln_error_prob ln_one_minus_exp ln_not two_trials ln_error_prob_two_trials adjusted_error correct_at
correct_20 = refl

pub error_20 : error_per_alt_at 90 20 ≡ wrong
unfolding sub mul div le ne of_bits to_bits of_int lost_of between_of ln_row_of ratio_of normal_of ln_of phred_to_ln_error_prob two_trials ln_error_prob_two_trials adjusted_error error_per_alt_at
error_20 = refl

-- as the tables of the rate have them
pub correct_entry : get_or (adjusted_tables 90).correct (min 20 93) nan ≡ right
unfolding adjusted_tables
correct_entry = level_at (correct_at 90) nan 94 20 (lit< tt) ∙ correct_20

pub error_entry : get_or (adjusted_tables 90).error_per_alt (min 20 93) nan ≡ wrong
unfolding adjusted_tables
error_entry = level_at (error_per_alt_at 90) nan 94 20 (lit< tt) ∙ error_20
