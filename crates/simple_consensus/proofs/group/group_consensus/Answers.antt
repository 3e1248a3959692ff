use Rattle.std.proofs.Common.{refl, sym}
use Rattle.std.proofs.lemmas.Result.{err_from_is_err_and}
use Rattle.refusals.specs.Result.{and_then}
use Rattle.umi_groups.specs.Found.{room_for, group_of}
use Rattle.umi_groups.proofs.Mapped.{map_refused, map_made}
use Rattle.umi_groups.specs.declared.group.Group.{Group}
use Rattle.simple_consensus.specs.declared.group.GroupConsensus.{GroupConsensus}
use Rattle.simple_consensus.specs.Answers.{group_consensus_of}
use Rattle.simple_consensus.specs.Consensus.{with_builder}
use Rattle.simple_consensus.specs.Places.{group_by}
use Rattle.simple_consensus.proofs.group.group_consensus.Goals as goal

pub returns-in_err-group : goal.returns-in_err-group
returns-in_err-group c =
    let s = c.args.strings.now in
    let told = c.consensus_group.ensures in
    let refused = map_refused group_of (and_then (group_by c.args.caller s.trim s.set.now s.places.now) (room_for c.args.out.now)) _ (rw c.in_err-group.was at (sym told.group)) in
    let reply = err_from_is_err_and c.from_residual.result c.from_residual.ensures.1 in
    record { group = rw (reply.1, reply.2, refused) refl; lent = told.lent; few = told.few }

pub returns : goal.returns
unfolding with_builder
returns c =
    let s = c.args.strings.now in
    let told = c.consensus_group.ensures in
    let made : Group → GroupConsensus = λ g. record { caller = with_builder g.builder c.args.caller; length = g.length; had_errors = g.had_errors } in
    record {
      group = map_made group_of (group_consensus_of c.args.caller) made (λ f. refl) (and_then (group_by c.args.caller s.trim s.set.now s.places.now) (room_for c.args.out.now)) _ (rw c.in_ok-group.was at (sym told.group));
      lent = told.lent;
      few = told.few;
    }
