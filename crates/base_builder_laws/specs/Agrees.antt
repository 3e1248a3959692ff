-- A shortcut and the long calculation.
use Rattle.std.specs.Prelude.{Option, Some, None, ◌≡◌}
use Rattle.lane_calls.specs.declared.call.Call.{Call}

-- where a shortcut replies, the long calculation names the same base
abbrev pub Agrees : Option Call → Call → Type 0
Agrees (Some short) full = short.base ≡ full.base
Agrees None full = Unit {0}
