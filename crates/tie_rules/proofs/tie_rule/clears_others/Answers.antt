-- `clears_others`: where every test passes, all three lanes are cleared. Assumes nothing.
use Rattle.std.proofs.Common.{sym, ◌∙◌}
use Rattle.tie_rules.proofs.Clear.{all_clear}
use Rattle.tie_rules.proofs.tie_rule.clears_others.Goals as goal
use Rattle.tie_rules.proofs.tie_rule.clears_others.Goals.{then-m-likelihoods, else-m-likelihoods}

pub returns-then-m-likelihoods-2 : goal.returns-then-m-likelihoods-2
returns-then-m-likelihoods-2 c t = elim c.if-m-likelihoods.branch [
  | then-m-likelihoods w ↦ all_clear _ _ _ c.requires w.if-m-likelihoods.true (sym w.value-is ∙ c.if-m-likelihoods-2.true) t
  | else-m-likelihoods w ↦ cc
]
