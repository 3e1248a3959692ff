-- The shortcut where two or more bases were observed: the error from the other lanes' distances to the rule's.
use Rattle.std.specs.Prelude.{ℕ, zero, suc, ◌&&◌, Option, Some, None, List, ltb, eqb, Float}
use Rattle.std.specs.Float.Ieee.Scale.{finite}
use Rattle.float.specs.Ops.{◌⊕◌, ◌⊖◌, ◌⊗◌, ◌⊘◌, bits, plus_zero}
use Rattle.std.specs.Prelude.{if◌then◌else◌}
use Rattle.float.specs.Methods.{abs_of, max_of}
use Rattle.elementary.specs.Exp.{exp_of}
use Rattle.elementary.specs.Ln.{ln_of}
use Rattle.elementary.specs.LnOnePlus.{ln_one_plus_of}
use Rattle.phred.specs.Phred.{ln_prob_to_phred, ln_error_prob_two_trials}
use Rattle.tie_rules.specs.declared.tie_rule.TieRule.{TieRule}
use Rattle.tie_rules.specs.Lanes.{lane, no_lane}
use Rattle.tie_rules.specs.Ties.{untied, none_above, unique_max_index_with}
use Rattle.lane_calls.specs.declared.call.Call.{Call}
use Rattle.lane_calls.specs.Calls.{called, headroom}

-- r, the sum of exp(lane - m) over the first n lanes but i, from lane to lane
unfoldable pub rest_below : List Float → ℕ → Float → ℕ → Float
rest_below xs i m zero = plus_zero
rest_below xs i m (suc n) =
    if eqb n i then rest_below xs i m n
    else rest_below xs i m n ⊕ exp_of (lane xs n ⊖ m)

-- the largest of |m| and the sizes of the first n lanes
unfoldable pub magnitude_below : List Float → Float → ℕ → Float
magnitude_below xs m zero = abs_of m
magnitude_below xs m (suc n) = max_of (magnitude_below xs m n) (abs_of (lane xs n))

-- the final error's logarithm: ln(r / (1 + r)), with the pre-UMI rate
unfoldable pub final_error : Float → Float → Float
final_error pre r = ln_error_prob_two_trials pre (ln_of r ⊖ ln_one_plus_of r)

-- 2^-1022 = 2.2250738585072014e-308, the least positive normal f64
abbrev pub least_normal : Float
least_normal = bits 0x0010_0000_0000_0000

-- by how much the long calculation may differ from it
unfoldable pub delta_of : Float → Float → Float
delta_of r magnitude = headroom ⊗ magnitude ⊘ max_of (ln_one_plus_of r) least_normal

-- the quality, where it is the same at delta below and above
unfoldable pub stable_reply : ℕ → Float → Float → Option Call
stable_reply i final delta =
    let q = ln_prob_to_phred final in
    if eqb (ln_prob_to_phred (final ⊖ delta)) q && eqb (ln_prob_to_phred (final ⊕ delta)) q then Some (called i q)
    else None

-- what the lanes say of lane i, of the value m
unfoldable pub rest_reply : Float → List Float → ℕ → Float → Option Call
rest_reply pre xs i m =
    let r = rest_below xs i m 4 in
    stable_reply i (final_error pre r) (delta_of r (magnitude_below xs m 4))

-- The shortcut: the rule names a lane that is finite, no other lane ties with it as the rule tests it, and none is above it.
unfoldable pub multibase_reply : Float → List Float → TieRule → Option Call
multibase_reply pre xs rule =
    let i = unique_max_index_with xs rule in
    let m = lane xs i in
    if ltb i no_lane && (finite m && (untied rule xs i m && none_above xs m)) then rest_reply pre xs i m
    else None
