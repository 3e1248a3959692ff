-- `counts_decide`: the one rule, and the other. Assumes nothing.
use mathlib.Core.Path.{refl, sym, ◌∙◌}
use Rattle.words.proofs.Cases.{clash}
use Rattle.umi_family.proofs.counts.counts_decide.Goals as goal

pub returns-in-UlpRelative : goal.returns-in-UlpRelative
returns-in-UlpRelative c = λ e. clash refl e

pub returns-in-FgbioCompat : goal.returns-in-FgbioCompat
returns-in-FgbioCompat c = λ e. (c.in-FgbioCompat.is, sym c.are_apart.ensures ∙ e)
