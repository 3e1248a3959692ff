-- What a script writes.
use Rattle.std.specs.Prelude.{ℕ, Bool, ◌&&◌, List, [], ◌∷◌, ◌++◌, length, leb}
use Rattle.std.specs.Prelude.{if◌then◌else◌}
use Rattle.rate_tables.specs.declared.adjusted.AdjustedProbabilityTables.{AdjustedProbabilityTables}
use Rattle.gap_tables.specs.declared.gaps.UnanimousGapTables.{UnanimousGapTables}
use Rattle.rate_tables.specs.Adjusted.{adjusted_tables}
use Rattle.gap_tables.specs.Gaps.{gap_tables}
use Rattle.base_builder.specs.declared.builder.ConsensusBaseBuilder.{ConsensusBaseBuilder}
use Rattle.base_builder.specs.Builder.{new_at, with_tie_rule}
use Rattle.export_scripts.specs.declared.item.Item.{Item}
use Rattle.export_scripts.specs.declared.progress.Progress.{Progress}
use Rattle.tie_rules.specs.Ties.{rule_of}
use Rattle.export_scripts.specs.Script.{items, is_script, passed}
use Rattle.export_reports.specs.Report.{said}

-- what items write in turn
unfoldable pub reports : AdjustedProbabilityTables → UnanimousGapTables → List Item → Progress → List ℕ
reports t g [] p = []
reports t g (i ∷ is) p = said g i p ++ reports t g is (passed t i p)

-- a builder under the rule of a number, with nothing refused
abbrev pub script_start : ℕ → ConsensusBaseBuilder → Progress
script_start rule b = record { builder = with_tie_rule (rule_of rule) b; refused = 0 }

-- what a script writes for a builder, with the tables of two rates and under a rule; nothing where rule or script is bad
unfoldable pub script_bytes : ℕ → ℕ → ℕ → List ℕ → ConsensusBaseBuilder → List ℕ
script_bytes pre post rule script b =
    if leb rule 1 && is_script 3 script then reports (adjusted_tables post) (gap_tables pre) (items script) (script_start rule b)
    else []

-- whether there is an answer: rule and script are good, and the buffer holds what the script writes
unfoldable pub is_answered : ℕ → List ℕ → List ℕ → List ℕ → Bool
is_answered rule script said out = leb rule 1 && (is_script 3 script && leb (length said) (length out))

-- for a new builder
unfoldable pub history_bytes : ℕ → ℕ → ℕ → List ℕ → List ℕ
history_bytes pre post rule script = script_bytes pre post rule script (new_at pre)
