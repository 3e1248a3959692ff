use Rattle.std.proofs.Common.{arith}
use Rattle.umi_family.proofs.ByCounts.{above_first, above_second, above_third, above_fourth}
use Rattle.umi_family.proofs.counts.leader.Goals as goal

pub returns-then-above : goal.returns-then-above
returns-then-above c = (omega arith, above_first _ _ _ _ (c.above.ensures c.if-above.true))

pub returns-then-above-2 : goal.returns-then-above-2
returns-then-above-2 c = (omega arith, above_second _ _ _ _ (c.above-else-above.ensures c.if-above-2.true))

pub returns-then-above-3 : goal.returns-then-above-3
returns-then-above-3 c = (omega arith, above_third _ _ _ _ (c.above-else-above-2.ensures c.if-above-3.true))

pub returns-then-above-4 : goal.returns-then-above-4
returns-then-above-4 c = (omega arith, above_fourth _ _ _ _ (c.above-else-above-3.ensures c.if-above-4.true))
