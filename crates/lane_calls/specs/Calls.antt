-- What is called. A shortcut replies with a call, or with none where it is not for it to decide.
use Rattle.std.specs.Prelude.{ℕ, Option, Some, Float}
use Rattle.float.specs.Ops.{◌⊕◌, ◌⊗◌, ◌⊘◌, bits}
use Rattle.float.specs.Methods.{abs_of}
use Rattle.phred.specs.Phred.{min_phred}
use Rattle.tie_rules.specs.Lanes.{no_lane, base_of}
use Rattle.lane_calls.specs.declared.call.Call.{Call}

-- the base of lane i with a quality
abbrev pub called : ℕ → ℕ → Call
called i q = record { base = base_of i; qual = record { 0 = q } }

-- no call: N with 2
abbrev pub no_call : Call
no_call = called no_lane min_phred

-- a shortcut replies where the step before it would read outside its tables
abbrev pub outside : Option Call
outside = Some no_call

-- 16
abbrev pub sixteen : Float
sixteen = bits 0x4030_0000_0000_0000

-- 2^-53 = 1.1102230246251565e-16, the unit of rounding
abbrev pub unit_roundoff : Float
unit_roundoff = bits 0x3ca0_0000_0000_0000

-- the source's headroom by its unit of rounding
abbrev pub headroom : Float
headroom = sixteen ⊗ unit_roundoff

-- by how much two calculations of the same logarithm may differ, as a gap: 16 · 2^-53 · (|winner| + |loser|) / c, where the error is at least c
unfoldable pub unanimous_margin : Float → Float → Float → Float
unanimous_margin winner loser c = headroom ⊗ (abs_of winner ⊕ abs_of loser) ⊘ c
