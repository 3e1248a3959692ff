-- A script that is run many times, for timing: what its calls add up to.
use Rattle.std.specs.Prelude.{ℕ, ◌+◌, ◌*◌, ◌%◌, ◌^◌, ◌&&◌, List, [], ◌∷◌, ◌==◌, nat_le}
use Rattle.std.specs.Prelude.{if◌then◌else◌}
use Rattle.rate_tables.specs.declared.adjusted.AdjustedProbabilityTables.{AdjustedProbabilityTables}
use Rattle.gap_tables.specs.declared.gaps.UnanimousGapTables.{UnanimousGapTables}
use Rattle.rate_tables.specs.Adjusted.{adjusted_tables}
use Rattle.gap_tables.specs.Gaps.{gap_tables}
use Rattle.base_builder.specs.declared.builder.ConsensusBaseBuilder.{ConsensusBaseBuilder}
use Rattle.base_builder.specs.Builder.{new_at, with_tie_rule}
use Rattle.base_builder.specs.Calls.{call_full_of, call_of}
use Rattle.tie_rules.specs.Ties.{rule_of}
use Rattle.export_scripts.specs.declared.item.Item.{Item}
use Rattle.export_scripts.specs.declared.item.Item.TheVariants.{Add, Reset, SetTieRule, Question}
use Rattle.export_scripts.specs.Item.{stepped}
use Rattle.export_scripts.specs.Script.{items, is_script}
use Rattle.export_timing.specs.Amounts.{amount_of}

-- what an item adds: question 3 the call's amount, any other the long calculation's
unfoldable pub amount_at : UnanimousGapTables → Item → ConsensusBaseBuilder → ℕ
amount_at g (Add base qual) b = 0
amount_at g Reset b = 0
amount_at g (SetTieRule rule) b = 0
amount_at g (Question kind) b =
    if kind == 3 then amount_of (call_of g b)
    else amount_of (call_full_of b)

-- what items add in turn
unfoldable pub amounts : AdjustedProbabilityTables → UnanimousGapTables → List Item → ConsensusBaseBuilder → ℕ
amounts t g [] b = 0
amounts t g (i ∷ is) b = amount_at g i b + amounts t g is (stepped t i b)

-- a number of runs of a script, each from a new builder, in 64 bits; 0 where rule or script is bad
unfoldable pub times_of : ℕ → ℕ → ℕ → List ℕ → ℕ → ℕ
times_of pre post rule script times =
    if nat_le rule 1 && is_script 4 script then times * amounts (adjusted_tables post) (gap_tables pre) (items script) (with_tie_rule (rule_of rule) (new_at pre)) % 2 ^ 64
    else 0
