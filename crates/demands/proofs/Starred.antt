-- The inputs of SCOPE 10.1, computed in one test, at any rate and with any tables. Assumes nothing.
use Prim.Native.Nat.{ℕ}
use lib.Dec.{T}
use lib.Ieee.{neg, lt, le, eq, is_nan, add as add', sub, mul, div, of_bits, of_int, to_bits}
use Rattle.float.specs.Methods.{abs_of, floor_of}
use Rattle.phred.specs.Phred.{phred_to_ln_error_prob, ln_prob_to_phred}
use Rattle.rate_tables.specs.declared.adjusted.AdjustedProbabilityTables.{AdjustedProbabilityTables}
use Rattle.gap_tables.specs.declared.gaps.UnanimousGapTables.{UnanimousGapTables}
use Rattle.tie_rules.specs.Lanes.{base_of, lane_of_byte}
use Rattle.tie_rules.specs.Scan.{scan}
use Rattle.words.specs.Claims.{all_below}
use Rattle.tie_rules.specs.Ties.{fgbio_tie, near_patterns, ulp_tie, ties_with, untied, fgbio_taken, fgbio_step, ulp_step, fgbio_unique_max_index, unique_max_index, not_minus_infinity, unique_max_index_with}
use Rattle.base_builder.specs.Builder.{new_at, cleared, total, contributions_of, added_by, added}
use Rattle.base_builder.specs.Calls.{call_of}
use Rattle.base_builder.specs.History.{step, run}
use Rattle.demands.specs.Starred.{all_starred}

pub starred : (pre : ℕ) (adjusted : AdjustedProbabilityTables) (gaps : UnanimousGapTables) → T (all_starred pre adjusted gaps)
unfolding call_of contributions_of total new_at cleared base_of run step added added_by lane_of_byte ln_prob_to_phred phred_to_ln_error_prob lt le eq is_nan div mul add' sub neg of_bits of_int to_bits abs_of floor_of unique_max_index_with fgbio_unique_max_index not_minus_infinity unique_max_index scan fgbio_taken fgbio_step ulp_step fgbio_tie untied ties_with ulp_tie near_patterns all_below
starred pre adjusted gaps = tt
