-- `call_lanes`: the lane is found once, for the shortcut and for the long calculation. Assumes nothing.
use Rattle.std.proofs.Common.{arith}
use Rattle.tie_rules.specs.Lanes.{no_lane}
use Rattle.lane_calls.proofs.AddedTests.{named_reply, unnamed_reply, named_full, unnamed_full}
use Rattle.lane_calls.proofs.position.Position.call_lanes.Goals as goal

pub returns-in_default : goal.returns-in_default
returns-in_default c =
    let p = c.args.self.now in
    let e = c.in_default.ensures.lane in
    rw (unnamed_reply p.ln_error_pre_umi.0 p.likelihoods p.tie_rule no_lane e (omega arith), unnamed_full p.ln_error_pre_umi.0 p.likelihoods p.tie_rule no_lane e (omega arith)) c.none.ensures

pub returns-in-Some-reply_of_lane : goal.returns-in-Some-reply_of_lane
returns-in-Some-reply_of_lane c =
    let p = c.args.self.now in
    rw (named_reply p.ln_error_pre_umi.0 p.likelihoods p.tie_rule c.in-Some.i c.in-Some.ensures.lane c.in-Some.ensures.inside, ← c.reply_of_lane.ensures, c.in-Some-reply_of_lane.is)

pub returns-in-None : goal.returns-in-None
returns-in-None c =
    let p = c.args.self.now in
    let e = c.in-Some.ensures.lane in
    rw (named_reply p.ln_error_pre_umi.0 p.likelihoods p.tie_rule c.in-Some.i e c.in-Some.ensures.inside, ← c.reply_of_lane.ensures, c.in-None.is, named_full p.ln_error_pre_umi.0 p.likelihoods p.tie_rule c.in-Some.i e c.in-Some.ensures.inside, ← c.full_quality.ensures) c.of.ensures
