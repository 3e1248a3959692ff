-- The long calculation, which asks neither shortcut.
use Rattle.std.specs.Prelude.{ℕ, List, ltb, Float}
use Rattle.std.specs.Prelude.{if◌then◌else◌}
use Rattle.phred.specs.Phred.{ln_prob_to_phred, ln_error_prob_two_trials, ln_sum_exp_array, ln_normalize, ln_not}
use Rattle.tie_rules.specs.declared.tie_rule.TieRule.{TieRule}
use Rattle.tie_rules.specs.Lanes.{lane, no_lane}
use Rattle.tie_rules.specs.Ties.{unique_max_index_with}
use Rattle.lane_calls.specs.declared.call.Call.{Call}
use Rattle.lane_calls.specs.Calls.{called, no_call}

-- the quality of a lane of the value m: the error that its share of all lanes leaves, with the pre-UMI rate
unfoldable pub full_quality : Float → List Float → Float → ℕ
full_quality pre xs m = ln_prob_to_phred (ln_error_prob_two_trials pre (ln_not (ln_normalize m (ln_sum_exp_array xs))))

-- the rule's lane with that quality, or no call
unfoldable pub full_call : Float → List Float → TieRule → Call
full_call pre xs rule =
    let i = unique_max_index_with xs rule in
    if ltb i no_lane then called i (full_quality pre xs (lane xs i))
    else no_call
