-- `leads`: a gap that is finite, and above 2^-52. Assumes nothing.
use Rattle.std.specs.Float.{float_is_finite}
use Rattle.unanimous_shortcut.specs.Unanimous.{leads}
use Rattle.unanimous_shortcut.proofs.unanimous.Winner.leads.Goals as goal

pub returns-then-is_finite : goal.returns-then-is_finite
unfolding leads float_is_finite
returns-then-is_finite c = rw (← c.is_finite.ensures.value, c.if-is_finite.true)

pub returns-else-is_finite : goal.returns-else-is_finite
unfolding leads float_is_finite
returns-else-is_finite c = rw (← c.is_finite.ensures.value, c.if-is_finite.false)
