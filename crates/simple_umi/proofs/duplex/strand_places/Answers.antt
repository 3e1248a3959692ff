use Rattle.std.proofs.Common.{◌<◌, length, refl, sym, ◌∙◌, arith}
use Rattle.simple_umi.proofs.Strands.{kept_turn, strand_done, longer_trimmed}
use Rattle.simple_umi.proofs.duplex.strand_places.Goals as goal
use Rattle.simple_umi.proofs.duplex.strand_places.Goals.{then-ends_in, else-ends_in}

pub loop-place-init : goal.loop-place-init
loop-place-init c = (omega arith, omega arith, refl, refl, λ k h. absurd (omega arith))

pub ends_in-requires : goal.ends_in-requires
ends_in-requires c = (c.requires.1.1 c.loop-place.place-index (omega arith)).0

pub loop-place-preserved : goal.loop-place-preserved
loop-place-preserved c =
    let l = c.loop-place in
    let more : l.place-index < length c.args.places.now = omega arith in
    let turn = kept_turn c.args.letter c.args.set.now c.args.places.now (length c.args.kept.now) l.place-index l.kept l.n l.invariant c.requires.0 more
    (c.requires.1.1 l.place-index more).0 c.ends_in.result c.ends_in.ensures in
    elim c.if-ends_in.branch [
      | then-ends_in w ↦ turn.more w.if-ends_in.true c.if-ends_in.kept c.if-ends_in.n w.kept-is w.n-is
      | else-ends_in w ↦ turn.same w.if-ends_in.false c.if-ends_in.kept c.if-ends_in.n w.kept-is w.n-is
    ]

pub returns : goal.returns
returns c =
    let l = c.loop-place in
    record {
      strings = sym (strand_done c.args.letter c.args.set.now c.args.places.now l.place-index l.kept l.n (omega arith)) ∙ l.invariant.3;
      inside = (omega (arith, c.requires.0), longer_trimmed c.args.set.now l.kept l.n (omega (arith, c.requires.0)) (omega (arith, c.requires.1.0)) l.invariant.4);
    }
