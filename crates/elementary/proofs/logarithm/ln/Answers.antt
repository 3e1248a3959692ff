use lib.Ieee.{of_bits}
use Rattle.float.specs.Ops.{plus_zero}
use Rattle.float.proofs.Order.{lt_numbers}
use Rattle.elementary.proofs.Numbers.{not_nan_mul}
use Rattle.elementary.proofs.LnRanges.{beyond_all}
use Rattle.elementary.proofs.logarithm.ln.Goals as goal

pub normal-requires-then-x-3 : goal.normal-requires-then-x-3
unfolding of_bits
normal-requires-then-x-3 c = not_nan_mul _ _ tt (lt_numbers plus_zero _ c.if-x-3.true).1

pub returns-else-x-7 : goal.returns-else-x-7
returns-else-x-7 c = beyond_all c.args.x c.if-x-5.false c.if-x-6.false c.if-x-7.false
