-- `try_multibase_fast_path`: for the lane that the rule names, and nothing where it names none. Assumes nothing.
use Rattle.std.proofs.Common.{sym, ◌∙◌, arith}
use Rattle.tie_rules.specs.Lanes.{no_lane}
use Rattle.lane_calls.proofs.AddedTests.{named_reply, unnamed_reply}
use Rattle.lane_calls.proofs.position.Position.try_multibase_fast_path.Goals as goal

pub returns-in_err-i : goal.returns-in_err-i
returns-in_err-i c =
    let p = c.args.self.now in
    rw c.from_residual.ensures (sym (unnamed_reply p.ln_error_pre_umi.0 p.likelihoods p.tie_rule no_lane c.in_err-i.ensures.lane (omega arith)))

pub returns : goal.returns
returns c =
    let p = c.args.self.now in
    c.reply_of_lane.ensures ∙ sym (named_reply p.ln_error_pre_umi.0 p.likelihoods p.tie_rule c.in_ok-i.i c.in_ok-i.ensures.lane c.in_ok-i.ensures.inside)
