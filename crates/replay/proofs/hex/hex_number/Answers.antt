-- `hex_number`: the number goes on within 64 bits. Assumes nothing.
use Rattle.std.proofs.Common.{arith}
use Rattle.replay.proofs.Digits.{one_more_fits}
use Rattle.replay.proofs.hex.hex_number.Goals as goal

pub overflow_mul-n : goal.overflow_mul-n
overflow_mul-n c = omega (arith, one_more_fits c.loop-b.b-index c.loop-b.n 0 (omega arith) c.loop-b.invariant.0 (omega arith))

pub overflow_add-n : goal.overflow_add-n
overflow_add-n c = omega (arith, one_more_fits c.loop-b.b-index c.loop-b.n c.in_ok-digit.field-0 (omega arith) c.loop-b.invariant.0 c.in_ok-digit.ensures.upper_bound)
