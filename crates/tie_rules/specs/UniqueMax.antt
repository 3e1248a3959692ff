-- What is answered as an Option: a lane, or none.
use Rattle.std.specs.Prelude.{ℕ, Option, Some, None, ltb}
use Rattle.std.specs.Prelude.{if◌then◌else◌}
use Rattle.tie_rules.specs.Lanes.{no_lane}

-- the number of the lane that is answered, 4 for none
abbrev pub lane_number : Option ℕ → ℕ
lane_number (Some i) = i
lane_number None = no_lane

-- the answer that has a number: one of the four lanes, or none
unfoldable pub named_lane : ℕ → Option ℕ
named_lane i =
    if ltb i no_lane then Some i
    else None
