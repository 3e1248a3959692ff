-- The shortcut where one base alone was observed: its quality by its lead over the others, from the tables of the pre-UMI rate.
use Rattle.std.specs.Prelude.{ℕ, ◌+◌, ◌-◌, ◌%◌, Bool, not, ◌&&◌, ◌||◌, Option, Some, None, List, ltb, eqb, Float}
use Rattle.std.specs.Float.Ieee.{lt, le}
use Rattle.std.specs.Float.Ieee.Scale.{finite}
use Rattle.float.specs.Ops.{◌⊖◌, ◌⊗◌, one, half, epsilon}
use Rattle.std.specs.Prelude.{if◌then◌else◌}
use Rattle.phred.specs.Phred.{ln_two}
use Rattle.gap_tables.specs.declared.gaps.UnanimousGapTables.{UnanimousGapTables}
use Rattle.tie_rules.specs.declared.tie_rule.TieRule.{TieRule}
use Rattle.tie_rules.specs.Lanes.{lane, counted, no_lane}
use Rattle.words.specs.Claims.{all_below}
use Rattle.tie_rules.specs.Ties.{untied}
use Rattle.lane_calls.specs.declared.call.Call.{Call}
use Rattle.lane_calls.specs.Calls.{called, outside, unanimous_margin}
use Rattle.unanimous_shortcut.specs.Search.{entry, partition_point}

-- the first lane that was observed, or none
unfoldable pub first_seen : List ℕ → ℕ
first_seen ns =
    if ltb 0 (counted ns 0) then 0
    else if ltb 0 (counted ns 1) then 1
    else if ltb 0 (counted ns 2) then 2
    else if ltb 0 (counted ns 3) then 3
    else no_lane

-- the lane that alone was observed, or none
unfoldable pub sole_lane : List ℕ → ℕ
sole_lane ns =
    let i = first_seen ns in
    if all_below 4 (λ j. eqb i j || eqb (counted ns j) 0) then i
    else no_lane

-- the winner leads the loser by a finite gap above 2^-52
unfoldable pub leads : Float → Float → Bool
leads winner loser = finite (winner ⊖ loser) && lt epsilon (winner ⊖ loser)

-- at or above the cap's threshold: the gap is ln 2 or more above it, and the margin is below half the error there
abbrev pub clears_cap : UnanimousGapTables → Float → Float → Bool
clears_cap t winner loser =
    le ln_two (winner ⊖ loser ⊖ entry t.thresholds t.cap)
    && lt (unanimous_margin winner loser one) (half ⊗ entry t.cerr_min (t.cap - 1))

-- then the quality is the cap
unfoldable pub cap_reply : UnanimousGapTables → ℕ → Float → Float → Option Call
cap_reply t i winner loser =
    if eqb t.cap 0 then outside
    else if clears_cap t winner loser then Some (called i t.cap)
    else None

-- below the cap's threshold, where p entries are at or below the gap: the margin of level p - 1
abbrev pub margin_of : UnanimousGapTables → Float → Float → ℕ → Float
margin_of t winner loser p = unanimous_margin winner loser (entry t.cerr_min (p - 1))

-- the gap is further than this above the level's threshold, and below the next level's
abbrev pub clears_lower : UnanimousGapTables → Float → Float → ℕ → Bool
clears_lower t winner loser p = lt (margin_of t winner loser p) (winner ⊖ loser ⊖ entry t.thresholds (p - 1))

abbrev pub clears_upper : UnanimousGapTables → Float → Float → ℕ → Bool
clears_upper t winner loser p = lt (margin_of t winner loser p) (entry t.thresholds p ⊖ (winner ⊖ loser))

-- then the quality is the level
unfoldable pub bracket_reply : UnanimousGapTables → ℕ → Float → Float → ℕ → Option Call
bracket_reply t i winner loser p =
    if eqb p 0 then outside
    else if not (clears_lower t winner loser p) then None
    else if ltb 93 p then outside
    else if clears_upper t winner loser p then Some (called i (p - 1))
    else None

-- what the tables say of lane i
unfoldable pub gap_reply : UnanimousGapTables → ℕ → Float → Float → Option Call
gap_reply t i winner loser =
    if ltb 93 t.cap then outside
    else if le (entry t.thresholds t.cap) (winner ⊖ loser) then cap_reply t i winner loser
    else bracket_reply t i winner loser (partition_point t.thresholds (winner ⊖ loser))

-- where lane i alone was observed: it leads the next lane, is finite, and no other lane ties with it as the rule tests it
unfoldable pub reply_for_lane : UnanimousGapTables → List Float → ℕ → TieRule → Option Call
reply_for_lane t xs i rule =
    let winner = lane xs i in
    let loser = lane xs ((i + 1) % 4) in
    if ltb i no_lane && (leads winner loser && (finite winner && untied rule xs i winner)) then gap_reply t i winner loser
    else None

-- the shortcut: for the lane that alone was observed
unfoldable pub unanimous_reply : UnanimousGapTables → List Float → List ℕ → TieRule → Option Call
unanimous_reply t xs ns rule = reply_for_lane t xs (sole_lane ns) rule
