use Rattle.std.proofs.Common.{sym, ◌∙◌}
use Rattle.umi_rows.proofs.RowLoops.{fits}
use Rattle.umi_rows.proofs.family.Family.of.Goals as goal

pub invariant_of-result : goal.invariant_of-result
invariant_of-result c = record { fit = fits _ _ _ (sym c.fit.ensures ∙ c.if-fit.true) }
