-- The quality of a unanimous position by the gap between its base and the others, and the tables that a pre-UMI rate has of it.
use Rattle.std.specs.Prelude.{ℕ, ◌+◌, List, [], ◌∷◌, ltb, get_or, Float}
use Rattle.std.specs.Float.{nan}
use Rattle.std.specs.Float.Ieee.{neg}
use Rattle.float.specs.Ops.{◌⊕◌, ◌⊗◌, ◌⊘◌, plus_zero, one, three}
use Rattle.std.specs.Prelude.{if◌then◌else◌}
use Rattle.elementary.specs.Exp.{exp_of}
use Rattle.phred.specs.Phred.{phred_to_ln_error_prob, ln_prob_to_phred, ln_error_prob_two_trials, ln_sum_exp_array, ln_normalize, ln_not}
use Rattle.gap_tables.specs.declared.gaps.UnanimousGapTables.{UnanimousGapTables}
use Rattle.rate_tables.specs.Tables.{levels}
use Rattle.gap_tables.specs.Thresholds.{threshold}

-- the gap formula: the quality where one lane leads three equal ones by the gap, at the pre-UMI logarithm. The four are 0 and three times -gap.
unfoldable pub unanimous_quality_from_gap : Float → Float → ℕ
unanimous_quality_from_gap pre gap =
    let ln_sum = ln_sum_exp_array (plus_zero ∷ neg gap ∷ neg gap ∷ neg gap ∷ []) in
    let ln_consensus_error = ln_not (ln_normalize plus_zero ln_sum) in
    ln_prob_to_phred (ln_error_prob_two_trials pre ln_consensus_error)

-- the threshold of a level at a pre-UMI rate
abbrev pub threshold_at : ℕ → ℕ → Float
threshold_at pre level = threshold (unanimous_quality_from_gap (phred_to_ln_error_prob pre)) level

-- the error of a unanimous position by its gap: 3·e^-gap / (1 + 3·e^-gap)
unfoldable pub consensus_error : Float → Float
consensus_error gap =
    let e = three ⊗ exp_of (neg gap) in
    e ⊘ (one ⊕ e)

-- the highest quality at a pre-UMI rate
unfoldable pub cap_of : ℕ → ℕ
cap_of pre = ln_prob_to_phred (phred_to_ln_error_prob pre)

-- the least error between the thresholds of a level and the next, which is that at the next; 0 from the cap on
unfoldable pub cerr_from : List Float → ℕ → ℕ → Float
cerr_from thresholds cap q =
    if ltb q cap then consensus_error (get_or thresholds (q + 1) nan)
    else plus_zero

-- the tables of a pre-UMI rate
unfoldable pub gap_tables : ℕ → UnanimousGapTables
gap_tables pre =
    let thresholds = levels (threshold_at pre) in
    record { thresholds = thresholds; cerr_min = levels (cerr_from thresholds (cap_of pre)); cap = cap_of pre }
