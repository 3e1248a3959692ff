-- `split_set`: by what is left. Assumes nothing.
use Rattle.export_umi_sets.proofs.Walk.{no_size, set_split}
use Rattle.export_umi_sets.proofs.sets.split_set.Goals as goal

pub returns-in_err-rest-clause-set : goal.returns-in_err-rest-clause-set
returns-in_err-rest-clause-set c = rw c.from_residual.ensures (no_size c.args.sets.now c.in_err-rest.ensures.cases)

pub returns-clause-set : goal.returns-clause-set
returns-clause-set c =
    let front = c.in_ok-rest.ensures.cases in
    set_split c.args.sets.now _ front.0 (rw (front.2, c.four_at.ensures) at c.split_at_checked-2.ensures.cases)
