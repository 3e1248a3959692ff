-- What a call adds to a sum.
use Rattle.std.specs.Prelude.{ℕ, ◌+◌}
use Rattle.lane_calls.specs.declared.call.Call.{Call}

-- base and quality of a call together
abbrev pub amount_of : Call → ℕ
amount_of c = c.base + c.qual.0
