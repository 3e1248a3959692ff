use Rattle.std.proofs.Common.{sym, ◌∙◌, refl}
use Rattle.umi_verdicts.specs.FamilyVerdicts.{verdict_within}
use Rattle.umi_verdicts.proofs.verdicts.verdict_within.Goals as goal

pub returns-then-looks_sound : goal.returns-then-looks_sound
returns-then-looks_sound c = sym (c.looks_sound.ensures c.if-looks_sound.true)

pub returns-then-any_high : goal.returns-then-any_high
unfolding verdict_within
returns-then-any_high c = rw (sym c.any_high.ensures ∙ c.if-any_high.true) refl

pub returns : goal.returns
unfolding verdict_within
returns c = rw (sym c.any_high.ensures ∙ c.if-any_high.false) c.columns_verdict.ensures
