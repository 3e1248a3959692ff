use Rattle.std.proofs.Common.{arith}
use lib.Ieee.{binary64}
use lib.Ieee.Bits.{to_bits-lt}
use Rattle.float.proofs.Patterns.{no_nan}
use Rattle.elementary.proofs.logarithm.normal.Goals as goal

pub overflow_add-k : goal.overflow_add-k
overflow_add-k c = omega (arith, to_bits-lt binary64 c.args.x (rw c.well_formed.0.1 tt))

pub overflow_cast-k : goal.overflow_cast-k
overflow_cast-k c = omega (arith, to_bits-lt binary64 c.args.x (rw c.well_formed.0.1 tt))

pub float_from_bits-t : goal.float_from_bits-t
float_from_bits-t c = no_nan _ (omega arith)
