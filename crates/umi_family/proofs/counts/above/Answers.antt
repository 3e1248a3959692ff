-- `above`: the three tests. Assumes nothing.
use borrow.Author.Tests.{ltb-true}
use lib.Dec.{ltb}
use mathlib.Core.Bool.{◌&&◌}
use Rattle.words.proofs.Cases.{both}
use Rattle.umi_family.proofs.counts.above.Goals as goal

pub returns : goal.returns
returns c h =
    let u = both (ltb c.args.p c.args.x && ltb c.args.q c.args.x) (ltb c.args.r c.args.x) h in
    let v = both (ltb c.args.p c.args.x) (ltb c.args.q c.args.x) u.0 in
    (ltb-true _ _ v.0, ltb-true _ _ v.1, ltb-true _ _ u.1)
