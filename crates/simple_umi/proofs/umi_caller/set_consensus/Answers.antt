use Rattle.std.proofs.Common.{take, replicate, refl, arith}
use Rattle.std.proofs.lemmas.Result.{err_from_is_err_and}
use Rattle.simple_consensus.proofs.Groups.{read_refused, read_strings, group_said}
use Rattle.simple_umi.proofs.Replies.{consensus_in_refused, consensus_in_lem}
use Rattle.simple_umi.proofs.umi_caller.set_consensus.Goals as goal

pub returns-in_err-count : goal.returns-in_err-count
returns-in_err-count c =
    let e = read_refused c.args.set.now _ (rw c.in_err-count.was at c.read_places.ensures.count) in
    let refused = consensus_in_refused c.args.set.now c.args.out.now c.args.caller _ e in
    let reply = err_from_is_err_and c.from_residual.result c.from_residual.ensures.1 in
    record { group = rw (reply.1, reply.2, refused) refl; lent = rw refused refl; few = rw e (omega arith) }

pub returns : goal.returns
returns c =
    let read = read_strings c.args.set.now c.read_places.new.places c.in_ok-count.count (replicate 255 0) c.in_ok-count.ensures.few c.in_ok-count.ensures.count c.read_places.ensures.lent in
    let said = group_said c.args.caller 0 c.args.set.now (take c.in_ok-count.count c.read_places.new.places) read.2 in
    let called = consensus_in_lem c.args.set.now c.args.out.now c.args.caller _ read.0 in
    record {
      group = rw (called, ← said) c.group_consensus.ensures.group;
      lent = rw (called, ← said) c.group_consensus.ensures.lent;
      few = rw (read.0, ← said) c.group_consensus.ensures.few;
    }
