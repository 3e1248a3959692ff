-- `finish`: out of turn, and in turn. Assumes nothing.
use mathlib.Core.Path.{refl}
use Rattle.column_writer.specs.Writing.{finish_of}
use Rattle.column_writer.proofs.writer.Writer.finish.Goals as goal

pub returns-then-not-awaits_finish : goal.returns-then-not-awaits_finish
unfolding finish_of
returns-then-not-awaits_finish c = rw (← c.if-not-awaits_finish.ensures) (record { step = refl; writer = refl; number = refl })

pub returns : goal.returns
unfolding finish_of
returns c = rw (← c.if-not-awaits_finish.ensures) (record { step = refl; writer = refl; number = refl })
