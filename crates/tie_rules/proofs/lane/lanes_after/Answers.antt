-- `lanes_after`: of a base the bits give the lanes after it. Assumes nothing.
use Rattle.std.proofs.Common.{arith}
use Rattle.std.proofs.lemmas.Bool.Decides.{nat_tests}
use Rattle.tie_rules.proofs.Lanes.{after_base}
use Rattle.tie_rules.specs.Lanes.{lanes_after}
use Rattle.tie_rules.proofs.lane.lanes_after.Goals as goal

pub returns-then-bits-lt2-clause-base : goal.returns-then-bits-lt2-clause-base
unfolding lanes_after
returns-then-bits-lt2-clause-base c = λ b. let e = after_base c.args.byte (omega arith) b in grind (arith, nat_tests)

pub returns-else-bits-lt2-clause-base : goal.returns-else-bits-lt2-clause-base
unfolding lanes_after
returns-else-bits-lt2-clause-base c = λ b. let e = after_base c.args.byte (omega arith) b in grind (arith, nat_tests)
