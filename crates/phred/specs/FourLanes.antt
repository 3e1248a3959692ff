-- As it is run; `array_of_four` (phred/proofs/FourLanes) joins it to `ln_sum_exp_array`: the lane to start from is moved to the front as the lanes are met.
use Rattle.std.specs.Prelude.{Float}
use Rattle.std.specs.Float.Ieee.{lt}
use Rattle.float.specs.Ops.{plus_infinity}
use Rattle.std.specs.Prelude.{if◌then◌else◌}
use Rattle.phred.specs.declared.four_lanes.FirstTwo.{FirstTwo}
use Rattle.phred.specs.declared.four_lanes.FirstThree.{FirstThree}
use Rattle.phred.specs.Phred.{ln_sum_exp}

-- lane 0, where it is below +infinity, and else that
unfoldable pub least_of : Float → Float
least_of a =
    if lt a plus_infinity then a
    else plus_infinity

-- after two lanes: the lowest, the one to start from, and the other
unfoldable pub first_two : Float → Float → FirstTwo
first_two a b =
    if lt b (least_of a) then record { least = b; start = b; next = a }
    else record { least = least_of a; start = a; next = b }

-- after three
unfoldable pub first_three : FirstTwo → Float → Float → Float → FirstThree
first_three t a b c =
    if lt c t.least then record { least = c; start = c; next = a; last = b }
    else record { least = t.least; start = t.start; next = t.next; last = c }

-- four lanes, folded in this order
unfoldable pub ln_sum_exp_four : Float → Float → Float → Float → Float
ln_sum_exp_four a b c d = ln_sum_exp (ln_sum_exp (ln_sum_exp a b) c) d

-- all four: the last where it is the lowest comes first
unfoldable pub ln_sum_exp_lanes : Float → Float → Float → Float → Float
ln_sum_exp_lanes a b c d =
    let t = first_three (first_two a b) a b c in
    if lt d t.least then ln_sum_exp_four d a b c
    else ln_sum_exp_four t.start t.next t.last d
