use Rattle.std.proofs.Common.{◌∙◌}
use borrow.Author.Tests.{eq-eqb, ne_eqb}
use Rattle.simple_umi.proofs.Strands.{at_short, at_long}
use Rattle.simple_umi.proofs.duplex.ends_in.Goals as goal

pub returns-then-n-lt2 : goal.returns-then-n-lt2
returns-then-n-lt2 c = at_short c.args.set.now c.args.place c.requires c.args.letter _ c.from-n.ensures c.if-n-lt2.true

pub returns-then-set-place-eq47 : goal.returns-then-set-place-eq47
returns-then-set-place-eq47 c =
    let long = at_long c.args.set.now c.args.place c.requires c.args.letter _ c.from-n.ensures c.if-n-lt2.false in
    rw (eq-eqb _ _ c.if-set-place-eq47.true) at long

pub returns-else-set-place-eq47 : goal.returns-else-set-place-eq47
returns-else-set-place-eq47 c =
    let long = at_long c.args.set.now c.args.place c.requires c.args.letter _ c.from-n.ensures c.if-n-lt2.false in
    let other = ne_eqb _ _ c.if-set-place-eq47.false in
    other ∙ (rw other at long)
