-- `count_strings`: too long, or as it is counted. Assumes nothing.
use mathlib.Core.Path.{◌∙◌, ap}
use lib.ListN.{length}
use Rattle.refusals.specs.Refusals.{number_in}
use Rattle.refusals.proofs.Numbers.{number_in-map_ok}
use Rattle.string_set.specs.StringSet.{string_set, read_set}
use Rattle.string_set.proofs.Readers.{lone_long, lone_fits}
use Rattle.string_set.proofs.count_strings.Goals as goal

pub returns-then-set-gt-LONGEST_FILE-clause-count : goal.returns-then-set-gt-LONGEST_FILE-clause-count
unfolding read_set
returns-then-set-gt-LONGEST_FILE-clause-count c = rw (lone_long string_set _ c.if-set-gt-LONGEST_FILE.true)

pub returns-then-set-gt-LONGEST_FILE-clause-number : goal.returns-then-set-gt-LONGEST_FILE-clause-number
unfolding read_set
returns-then-set-gt-LONGEST_FILE-clause-number c = rw (lone_long string_set _ c.if-set-gt-LONGEST_FILE.true)

pub returns-clause-count : goal.returns-clause-count
unfolding read_set
returns-clause-count c = rw (lone_fits string_set _ c.if-set-gt-LONGEST_FILE.false) (c.ok_or.ensures.value ∙ c.set_count.ensures.count)

pub returns-clause-number : goal.returns-clause-number
returns-clause-number c = ap number_in (returns-clause-count c) ∙ number_in-map_ok length (read_set c.args.set.now)
