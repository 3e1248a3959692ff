-- `floor_to_u64`: from 0 up to 2 ^ 64 the fraction is dropped, and elsewhere the floor is an end of the range. Assumes nothing.
use Rattle.std.proofs.Common.{true, false, pos, sym, refl, ◌∙◌}
use lib.Ieee.{fin, of_bits, lt}
use Rattle.float.proofs.Order.{lt_trans}
use Rattle.float.proofs.Floor.{floor_unsigned, floor_least, floor_most}
use Rattle.float.proofs.floor_to_u64.Goals as goal

pub truncating_f64_to_u64-requires : goal.truncating_f64_to_u64-requires
unfolding of_bits lt
truncating_f64_to_u64-requires c = record { lower_bound = rw (lt_trans (fin true 1 (pos 0)) (fin false 0 (pos 0)) c.args.x refl c.if-x.true) tt; upper_bound = rw c.if-x-2.true tt }

pub returns-then-x-2 : goal.returns-then-x-2
returns-then-x-2 c = c.truncating_f64_to_u64.ensures ∙ sym (floor_unsigned _)

pub returns-else-x-2 : goal.returns-else-x-2
returns-else-x-2 c = floor_most _ c.if-x.true c.if-x-2.false

pub returns-else-x : goal.returns-else-x
returns-else-x c = floor_least _ c.if-x.false
