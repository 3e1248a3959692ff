-- What else holds after every list of events.
use Rattle.std.specs.Prelude.{◌≡◌, List, [], ◌∷◌, ℕ, ◌≤◌, ◌<◌, length}
use Rattle.rate_tables.specs.Adjusted.{adjusted_tables}
use Rattle.gap_tables.specs.Gaps.{gap_tables}
use Rattle.tie_rules.specs.declared.tie_rule.TieRule.{TieRule}
use Rattle.tie_rules.specs.Lanes.{no_lane, base_of, counted}
use Rattle.base_builder.specs.declared.builder.ConsensusBaseBuilder.{ConsensusBaseBuilder}
use Rattle.base_builder.specs.Builder.{total, sum_of, contributions_of, full_count}
use Rattle.base_builder.specs.Calls.{call_of}
use Rattle.base_builder.specs.History.{Event, reset, run, after, ruled}
use Rattle.base_builder_laws.specs.Counted.{counted_since, values_of, kahan, times_counted}

pub record Laws (pre post : ℕ) (rule : TieRule) (es : List Event) : Type 0 where
  -- what a lane holds depends on its own values alone
  pub own_values : (i : ℕ) → i < 4 → sum_of (after pre post rule es) i ≡ kahan (values_of (adjusted_tables post) i (counted_since [] es))
  -- its count is the number of observations of its base that were counted since the last reset
  pub count : (i : ℕ) → i < 4 → counted (after pre post rule es).observations i ≡ times_counted i (counted_since [] es)
  -- all counts together are all of these observations
  pub together : total (after pre post rule es).observations ≡ length (counted_since [] es)
  -- and never more than 4,294,967,295, so that none of them wraps
  pub most : total (after pre post rule es).observations ≤ full_count
  -- the base of the call is that of the rule's lane, N where there is none
  pub call_base : (call_of (gap_tables pre) (after pre post rule es)).base ≡ base_of (ruled (after pre post rule es))
  -- as there is where nothing was counted
  pub nothing_counted : contributions_of (after pre post rule es) ≡ 0 → ruled (after pre post rule es) ≡ no_lane

-- any builder, after a reset and any events: here too the base of the call is that of the rule's lane, with the tables of any pre-UMI rate
pub record AfterReset (pre post : ℕ) (b : ConsensusBaseBuilder) (es : List Event) : Type 0 where
  pub call_base : (call_of (gap_tables pre) (run (adjusted_tables post) (reset ∷ es) b)).base ≡ base_of (ruled (run (adjusted_tables post) (reset ∷ es) b))
