-- `announced`: the settings, and a count. Assumes nothing.
use Rattle.string_set.specs.StringSet.{string}
use Rattle.column_file.specs.Format.{settings, announced}
use Rattle.column_file.proofs.settings.announced.Goals as goal

pub returns-in_err-settings : goal.returns-in_err-settings
unfolding announced settings string
returns-in_err-settings c = rw (c.from_residual.ensures, c.in_err-settings.ensures)

pub returns-in_err-count : goal.returns-in_err-count
unfolding announced settings string
returns-in_err-count c = rw (c.from_residual-in_err-count.ensures, c.in_ok-settings.ensures, c.in_err-count.ensures)

pub returns : goal.returns
unfolding announced settings string
returns c = rw (c.in_ok-settings.ensures, c.in_ok-count.ensures.0)
