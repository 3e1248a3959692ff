-- `reply_of_lane`: by whether the lane is finite. Assumes nothing.
use Rattle.std.specs.Float.{float_is_finite}
use Rattle.lane_calls.specs.Lane.{reply_of_lane}
use Rattle.lane_calls.proofs.position.Position.reply_of_lane.Goals as goal

pub returns-then-is_finite : goal.returns-then-is_finite
unfolding reply_of_lane float_is_finite
returns-then-is_finite c = rw (← c.is_finite.ensures.value, c.if-is_finite.true) c.rest_reply.ensures

pub returns : goal.returns
unfolding reply_of_lane float_is_finite
returns c = rw (← c.is_finite.ensures.value, c.if-is_finite.false)
