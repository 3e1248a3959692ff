-- `ln_sum_exp_from`: what stands before the lane is folded in first, then what stands after it. Assumes nothing.
use Rattle.std.proofs.Common.{arith}
use Rattle.std.proofs.lemmas.Grind.{common_steps}
use Rattle.phred.proofs.Folds.{sums_append}
use Rattle.phred.specs.Phred.{ln_sum_exp_from}
use Rattle.phred.proofs.ln_sum_exp_from.Goals as goal

pub returns : goal.returns
unfolding ln_sum_exp_from
returns c = rw (sums_append, ← c.ln_sum_exp_fold-before.ensures) (grind (arith, common_steps))
