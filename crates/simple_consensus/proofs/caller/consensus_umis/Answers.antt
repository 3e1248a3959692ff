use Rattle.std.proofs.Common.{ℕ, take, replicate, refl, sym}
use Rattle.std.proofs.lemmas.Result.{err_from_is_err_and}
use Rattle.refusals.specs.Result.{and_then}
use Rattle.umi_groups.specs.Found.{room_for}
use Rattle.umi_groups.proofs.Mapped.{map_refused, map_made}
use Rattle.umi_groups.proofs.Room.{room_few}
use Rattle.simple_consensus.specs.declared.group.GroupConsensus.{GroupConsensus}
use Rattle.simple_consensus.specs.Consensus.{default_caller, umis_of}
use Rattle.simple_consensus.specs.Answers.{length_of_found, group_consensus_of}
use Rattle.simple_consensus.specs.Places.{strings_at}
use Rattle.simple_consensus.proofs.Groups.{read_refused, read_strings}
use Rattle.simple_consensus.proofs.Replies.{replied, umis_in_refused, umis_in}
use Rattle.simple_consensus.proofs.caller.consensus_umis.Goals as goal

pub returns-in_err-count : goal.returns-in_err-count
returns-in_err-count c =
    let refused = umis_in_refused c.args.set.now c.args.out.now _ (read_refused c.args.set.now _ (rw c.in_err-count.was at c.read_places.ensures.count)) in
    let reply = err_from_is_err_and c.from_residual.result c.from_residual.ensures.1 in
    record { answer = rw (reply.1, reply.2, refused) refl; lent = rw refused refl; short = rw reply.1 tt; number = rw (reply.1, reply.2, refused) refl }

pub alike_consensus-requires : goal.alike_consensus-requires
alike_consensus-requires c =
    (read_strings c.args.set.now c.read_places.new.places c.in_ok-count.count (replicate 255 0) c.in_ok-count.ensures.few c.in_ok-count.ensures.count c.read_places.ensures.lent).2

pub returns-in_err-given : goal.returns-in_err-given
returns-in_err-given c =
    let read = read_strings c.args.set.now c.read_places.new.places c.in_ok-count.count (replicate 255 0) c.in_ok-count.ensures.few c.in_ok-count.ensures.count c.read_places.ensures.lent in
    let found = umis_of default_caller (strings_at 0 c.args.set.now (take c.in_ok-count.count c.read_places.new.places)) in
    let t = and_then found (room_for c.args.out.now) in
    let same = umis_in c.args.set.now c.args.out.now _ read.0 in
    let group = rw c.default-caller.ensures at c.alike_consensus.ensures.group in
    let lent = rw c.default-caller.ensures at c.alike_consensus.ensures.lent in
    let few = room_few c.args.out.now found (rw c.default-caller.ensures at c.alike_consensus.ensures.few) in
    let refused = map_refused (group_consensus_of default_caller) t _ (rw c.in_err-given.was at (sym group)) in
    let reply = err_from_is_err_and c.from_residual-in_err-given.result c.from_residual-in_err-given.ensures.1 in
    let said = replied length_of_found (λ (n : ℕ). n) (λ x. refl) t few _ (rw (reply.1, reply.2, refused) refl) in
    record { answer = rw same said.answer; lent = rw same lent; short = said.short; number = rw same said.number }

pub returns : goal.returns
returns c =
    let read = read_strings c.args.set.now c.read_places.new.places c.in_ok-count.count (replicate 255 0) c.in_ok-count.ensures.few c.in_ok-count.ensures.count c.read_places.ensures.lent in
    let found = umis_of default_caller (strings_at 0 c.args.set.now (take c.in_ok-count.count c.read_places.new.places)) in
    let t = and_then found (room_for c.args.out.now) in
    let same = umis_in c.args.set.now c.args.out.now _ read.0 in
    let group = rw c.default-caller.ensures at c.alike_consensus.ensures.group in
    let lent = rw c.default-caller.ensures at c.alike_consensus.ensures.lent in
    let few = room_few c.args.out.now found (rw c.default-caller.ensures at c.alike_consensus.ensures.few) in
    let said = replied length_of_found (λ (n : ℕ). n) (λ x. refl) t few _
    (map_made (group_consensus_of default_caller) length_of_found (λ (g : GroupConsensus). g.length) (λ f. refl) t _ (rw c.in_ok-given.was at (sym group))) in
    record { answer = rw same said.answer; lent = rw same lent; short = said.short; number = rw same said.number }
