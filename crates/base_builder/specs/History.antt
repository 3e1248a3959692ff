-- A builder's history: a list of its calls.
use Rattle.std.specs.Prelude.{ℕ, List, [], ◌∷◌}
use Rattle.rate_tables.specs.declared.adjusted.AdjustedProbabilityTables.{AdjustedProbabilityTables}
use Rattle.rate_tables.specs.Adjusted.{adjusted_tables}
use Rattle.tie_rules.specs.declared.tie_rule.TieRule.{TieRule}
use Rattle.tie_rules.specs.Ties.{unique_max_index_with}
use Rattle.base_builder.specs.declared.builder.ConsensusBaseBuilder.{ConsensusBaseBuilder}
use Rattle.base_builder.specs.Builder.{new_at, with_tie_rule, reset_of, added}

-- what can happen to a builder: `add` with a base byte and a quality byte, `reset`, `set_tie_rule`
pub data Event : Type 0 where
  add : ℕ → ℕ → Event
  reset : Event
  set_tie_rule : TieRule → Event

-- the builder after an event, with the tables of its post-UMI rate; a base that is ignored or refused leaves it as it was
unfoldable pub step : AdjustedProbabilityTables → Event → ConsensusBaseBuilder → ConsensusBaseBuilder
step t (add base q) b = added t.correct t.error_per_alt base q b
step t reset b = reset_of b
step t (set_tie_rule rule) b = with_tie_rule rule b

-- after a list of events
unfoldable pub run : AdjustedProbabilityTables → List Event → ConsensusBaseBuilder → ConsensusBaseBuilder
run t [] b = b
run t (e ∷ es) b = run t es (step t e b)

-- a new builder at two rates, under a rule, after a list of events
unfoldable pub after : ℕ → ℕ → TieRule → List Event → ConsensusBaseBuilder
after pre post rule es = run (adjusted_tables post) es (with_tie_rule rule (new_at pre))

-- the lane that the builder's rule names
abbrev pub ruled : ConsensusBaseBuilder → ℕ
ruled b = unique_max_index_with b.likelihoods b.tie_rule
