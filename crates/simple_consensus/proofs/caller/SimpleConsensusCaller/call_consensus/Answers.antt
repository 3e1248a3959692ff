use Rattle.std.proofs.Common.{refl, sym}
use Rattle.std.proofs.lemmas.Result.{err_from_is_err_and}
use Rattle.umi_groups.proofs.Mapped.{map_refused, map_made}
use Rattle.simple_consensus.specs.declared.caller.Consensus.{Consensus}
use Rattle.simple_consensus.specs.declared.group.GroupConsensus.{GroupConsensus}
use Rattle.simple_consensus.specs.Answers.{call_consensus_in, consensus_of_found, group_consensus_of}
use Rattle.simple_consensus.proofs.Replies.{replied, kept_caller}
use Rattle.simple_consensus.proofs.caller.SimpleConsensusCaller.call_consensus.Goals as goal

pub returns-in_err-given : goal.returns-in_err-given
returns-in_err-given c =
    let t = call_consensus_in c.args.self c.args.set.now c.args.out.now in
    let told = c.call_set.ensures in
    let refused = map_refused (group_consensus_of c.args.self) t _ (rw c.in_err-given.was at (sym told.group)) in
    let reply = err_from_is_err_and c.from_residual.result c.from_residual.ensures.1 in
    let said = replied (consensus_of_found c.args.self) (λ (given : Consensus). given.length) (λ x. refl) t told.few _ (rw (reply.1, reply.2, refused) refl) in
    record { answer = said.answer; caller = kept_caller (consensus_of_found c.args.self) (λ (given : Consensus). given.caller) c.args.self (λ x. refl) t _ said.answer; lent = told.lent; short = said.short; number = said.number }

pub returns : goal.returns
returns c =
    let t = call_consensus_in c.args.self c.args.set.now c.args.out.now in
    let told = c.call_set.ensures in
    let made : GroupConsensus → Consensus = λ g. record { caller = g.caller; length = g.length } in
    let said = replied (consensus_of_found c.args.self) (λ (given : Consensus). given.length) (λ x. refl) t told.few _
    (map_made (group_consensus_of c.args.self) (consensus_of_found c.args.self) made (λ f. refl) t _ (rw c.in_ok-given.was at (sym told.group))) in
    record { answer = said.answer; caller = kept_caller (consensus_of_found c.args.self) (λ (given : Consensus). given.caller) c.args.self (λ x. refl) t _ said.answer; lent = told.lent; short = said.short; number = said.number }
