-- An item of a script, and what it is to a builder.
use Rattle.std.specs.Prelude.{ℕ, Ok, eqb}
use Rattle.std.specs.Prelude.{if◌then◌else◌}
use Rattle.refusals.specs.Result.{Verdict}
use Rattle.rate_tables.specs.declared.adjusted.AdjustedProbabilityTables.{AdjustedProbabilityTables}
use Rattle.tie_rules.specs.Ties.{rule_of}
use Rattle.base_builder.specs.declared.builder.ConsensusBaseBuilder.{ConsensusBaseBuilder}
use Rattle.base_builder.specs.Builder.{add_answer}
use Rattle.base_builder.specs.History.{add, reset, set_tie_rule, step}
use Rattle.export_scripts.specs.declared.item.Item.{Item}
use Rattle.export_scripts.specs.declared.item.Item.TheVariants.{Add, Reset, SetTieRule, Question}

-- the item of three bytes: 0 base quality, 1 _ _, 2 rule _, or a question
unfoldable pub item_of : ℕ → ℕ → ℕ → Item
item_of kind a b =
    if eqb kind 0 then Add a (record { 0 = b })
    else if eqb kind 1 then Reset
    else if eqb kind 2 then SetTieRule (rule_of a)
    else Question kind

-- the builder after an item, as after an event of its history; a question changes nothing
unfoldable pub stepped : AdjustedProbabilityTables → Item → ConsensusBaseBuilder → ConsensusBaseBuilder
stepped t (Add base qual) b = step t (add base qual.0) b
stepped t Reset b = step t reset b
stepped t (SetTieRule rule) b = step t (set_tie_rule rule) b
stepped t (Question kind) b = b

-- what it is answered: only a base can be refused
unfoldable pub answered : Item → ConsensusBaseBuilder → Verdict
answered (Add base qual) b = add_answer base b
answered Reset b = Ok tt
answered (SetTieRule rule) b = Ok tt
answered (Question kind) b = Ok tt
