-- `unique_max_index_with`: by the rule. Assumes nothing.
use Rattle.tie_rules.specs.Ties.{unique_max_index_with}
use Rattle.tie_rules.proofs.unique_max.unique_max_index_with.Goals as goal

pub returns-in-UlpRelative : goal.returns-in-UlpRelative
unfolding unique_max_index_with
returns-in-UlpRelative c = let a = c.unique_max_index.ensures in rw c.in-UlpRelative.is (record { answer = a.answer; lane = a.lane; inside = a.inside })

pub returns-in-FgbioCompat : goal.returns-in-FgbioCompat
returns-in-FgbioCompat c = let a = c.fgbio_lead.ensures in rw c.in-FgbioCompat.is (record { answer = a.answer; lane = a.lane; inside = a.inside })
