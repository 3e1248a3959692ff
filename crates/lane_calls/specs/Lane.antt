-- As it is run; `named_reply` (lane_calls/proofs/AddedTests) joins it to `multibase_reply`: the shortcut for the lane that the rule names.
use Rattle.std.specs.Prelude.{ℕ, Option, None, List, Float}
use Rattle.std.specs.Float.Ieee.Scale.{finite}
use Rattle.std.specs.Prelude.{if◌then◌else◌}
use Rattle.lane_calls.specs.declared.call.Call.{Call}
use Rattle.lane_calls.specs.Multibase.{rest_reply}

-- the one test that may fail is that for a finite lane
unfoldable pub reply_of_lane : Float → List Float → ℕ → Float → Option Call
reply_of_lane pre xs i m =
    if finite m then rest_reply pre xs i m
    else None
