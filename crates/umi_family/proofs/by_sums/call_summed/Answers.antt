use Rattle.std.proofs.Common.{arith}
use Rattle.umi_family.proofs.ColumnLoops.{column-more}
use Rattle.umi_family.proofs.by_sums.call_summed.Goals as goal

pub loop-at-preserved : goal.loop-at-preserved
loop-at-preserved c =
    let f = c.args.family.now in
    column-more f.width f.set.now f.places.now c.args.window.now c.args.rule c.loop-at.text c.loop-at.at _ (omega arith) (omega arith) c.summed_byte.ensures c.loop-at.invariant
