use Rattle.std.proofs.Common.{refl, sym, arith}
use Rattle.std.proofs.lemmas.Result.{err_from_is_err_and}
use Rattle.umi_groups.proofs.Mapped.{map_refused, map_made}
use Rattle.simple_consensus.specs.declared.group.GroupConsensus.{GroupConsensus}
use Rattle.simple_consensus.specs.Answers.{group_consensus_of}
use Rattle.simple_consensus.proofs.Replies.{replied, kept_caller}
use Rattle.simple_umi.specs.declared.umi_caller.FlaggedConsensus.{FlaggedConsensus}
use Rattle.simple_umi.specs.Answers.{consensus_in, flagged_consensus_of}
use Rattle.simple_umi.proofs.Replies.{consensus_fits, consensus_few}
use Rattle.simple_umi.proofs.umi_caller.SimpleUmiConsensusCaller.consensus.Goals as goal

pub returns-in_err-given : goal.returns-in_err-given
returns-in_err-given c =
    let caller = c.args.self.caller in
    let t = consensus_in caller c.args.set.now c.args.out.now in
    let told = c.set_consensus.ensures in
    let refused = map_refused (group_consensus_of caller) t _ (rw c.in_err-given.was at (sym told.group)) in
    let reply = err_from_is_err_and c.from_residual.result c.from_residual.ensures.1 in
    let said = replied (flagged_consensus_of caller) (λ (given : FlaggedConsensus). given.length) (λ x. refl) t (consensus_few c.args.set.now c.args.out.now caller told.few) _ (rw (reply.1, reply.2, refused) refl) in
    record { answer = said.answer; caller = kept_caller (flagged_consensus_of caller) (λ (given : FlaggedConsensus). given.caller.caller) caller (λ x. refl) t _ said.answer; lent = told.lent; short = said.short; number = said.number; fits = λ h. consensus_fits c.args.set.now c.args.out.now caller (omega (arith, told.few)) }

pub returns : goal.returns
returns c =
    let caller = c.args.self.caller in
    let t = consensus_in caller c.args.set.now c.args.out.now in
    let told = c.set_consensus.ensures in
    let made : GroupConsensus → FlaggedConsensus = λ g. record { caller = record { caller = g.caller }; length = g.length; had_errors = g.had_errors } in
    let said = replied (flagged_consensus_of caller) (λ (given : FlaggedConsensus). given.length) (λ x. refl) t (consensus_few c.args.set.now c.args.out.now caller told.few) _
    (map_made (group_consensus_of caller) (flagged_consensus_of caller) made (λ f. refl) t _ (rw c.in_ok-given.was at (sym told.group))) in
    record { answer = said.answer; caller = kept_caller (flagged_consensus_of caller) (λ (given : FlaggedConsensus). given.caller.caller) caller (λ x. refl) t _ said.answer; lent = told.lent; short = said.short; number = said.number; fits = λ h. consensus_fits c.args.set.now c.args.out.now caller (omega (arith, told.few)) }
