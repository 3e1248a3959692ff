use native.Mathlib.Omega.{arith}
use lib.Ieee.{of_bits}
use Rattle.float.specs.Ops.{one}
use Rattle.float.proofs.Order.{not_nan_add}
use Rattle.float.proofs.Patterns.{no_nan}
use Rattle.elementary.proofs.ln_one_plus.reduced.Goals as goal

pub float_to_bits-v : goal.float_to_bits-v
unfolding of_bits
float_to_bits-v c = rw (not_nan_add _ one tt c.requires) tt

pub float_from_bits-f : goal.float_from_bits-f
float_from_bits-f c = no_nan _ (omega arith)
