use Rattle.umi_rows.proofs.RowLoops.{others_fit}
use Rattle.umi_rows.proofs.rows.RowsIterator.next.Goals as goal

pub invariant_of-self : goal.invariant_of-self
invariant_of-self c = others_fit _ _ c.in_ok-place.ensures.cases.0 c.self.invariant
