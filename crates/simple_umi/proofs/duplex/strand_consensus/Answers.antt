use Rattle.std.proofs.Common.{◌≡◌, take, ◌∙◌, ap, arith}
use Rattle.umi_groups.proofs.Room.{room_fits}
use Rattle.simple_consensus.specs.Consensus.{consensus_of}
use Rattle.simple_consensus.specs.Places.{strings_at, group_by}
use Rattle.simple_consensus.proofs.Groups.{group_said}
use Rattle.simple_umi.specs.Duplex.{strand_of}
use Rattle.simple_umi.proofs.duplex.strand_consensus.Goals as goal

pub returns : goal.returns
returns c =
    let places = take c.strand_places-n.result c.strand_places-n.new.kept in
    let said : group_by c.args.caller 2 c.args.set.now places ≡ consensus_of c.args.caller (strand_of c.args.letter (strings_at 0 c.args.set.now c.args.places.now)) =
    group_said c.args.caller 2 c.args.set.now places c.strand_places-n.ensures.inside.1 ∙ ap (consensus_of c.args.caller) c.strand_places-n.ensures.strings in
    let fits = room_fits c.args.text.now (group_by c.args.caller 2 c.args.set.now places) (omega (arith, c.group_consensus.ensures.few, c.requires.0)) in
    record {
      group = rw (← said) (rw fits at c.group_consensus.ensures.group);
      lent = rw (← said) (rw fits at c.group_consensus.ensures.lent);
      few = rw (← said) c.group_consensus.ensures.few;
    }
