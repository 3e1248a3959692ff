-- Demand 3, whole (SCOPE 1.3): a shortcut never changes a base.
use Rattle.std.specs.Prelude.{◌≡◌, List, ℕ, ◌≤◌, get_or}
use Rattle.std.specs.Float.{nan}
use Rattle.phred.specs.Phred.{phred_to_ln_error_prob}
use Rattle.gap_tables.specs.Thresholds.{Thresholds}
use Rattle.gap_tables.specs.Gaps.{unanimous_quality_from_gap, threshold_at, gap_tables}
use Rattle.tie_rules.specs.declared.tie_rule.TieRule.{TieRule}
use Rattle.base_builder.specs.Calls.{unanimous_of, multibase_of, call_full_of}
use Rattle.base_builder.specs.History.{Event, after}
use Rattle.base_builder_laws.specs.Agrees.{Agrees}

pub record Demand3 : Type 0 where
  -- For every list of observations, resets and rule changes, ignored and refused observations included, from a new builder at any two rates, under either
  -- rule: after the list, wherever a shortcut replies, the long calculation on that same builder names the same base.
  pub same_base : (pre post : ℕ) (rule : TieRule) (es : List Event)
      → let b = after pre post rule es in
      Agrees (unanimous_of (gap_tables pre) b) (call_full_of b) × Agrees (multibase_of b) (call_full_of b)
  -- For every pre-UMI rate: the gap thresholds never fall as the level rises; every finite one is a gap at which the formula reaches its level; one is 0
  -- exactly when gap 0 reaches its level, and infinite exactly when neither gap 0 nor gap 256 does.
  pub thresholds : (pre : ℕ) → Thresholds (unanimous_quality_from_gap (phred_to_ln_error_prob pre))
  -- They are the entries of that rate's table.
  pub in_the_table : (pre level : ℕ) → level ≤ 93 → get_or (gap_tables pre).thresholds level nan ≡ threshold_at pre level
