-- The two tie rules: when two lanes tie, and the lane that each rule names.
use Rattle.std.specs.Prelude.{ℕ, ◌+◌, ◌^◌, Bool, true, false, not, ◌&&◌, ◌||◌, Option, Some, None, option_and_then, List, leb, ltb, eqb, Float}
use Rattle.std.specs.Bool.{beq}
use Rattle.std.specs.Float.{binary64}
use Rattle.std.specs.Float.Ieee.{to_bits, lt, le, eq, is_nan}
use Rattle.std.specs.Float.Ieee.Scale.{finite}
use Rattle.float.specs.Ops.{◌⊖◌, epsilon}
use Rattle.std.specs.Prelude.{if◌then◌else◌}
use Rattle.float.specs.Methods.{abs_of}
use Rattle.phred.specs.Phred.{ln_zero}
use Rattle.tie_rules.specs.declared.lead.Lead.{Lead}
use Rattle.tie_rules.specs.declared.tie_rule.TieRule.{TieRule}
use Rattle.tie_rules.specs.declared.tie_rule.TieRule.TheVariants.{UlpRelative, FgbioCompat}
use Rattle.tie_rules.specs.Lanes.{lane, no_lane}
use Rattle.tie_rules.specs.Scan.{scan, new_lead, cancelled, below_every}
use Rattle.tie_rules.specs.UniqueMax.{lane_number}
use Rattle.words.specs.Claims.{all_below}

-- the rule of a number: 0 FgbioCompat, any other UlpRelative
abbrev pub rule_of : ℕ → TieRule
rule_of n =
    if eqb n 0 then FgbioCompat
    else UlpRelative

-- and the number of a rule
abbrev pub rule_number : TieRule → ℕ
rule_number FgbioCompat = 0
rule_number UlpRelative = 1

-- ---- when two lanes tie

-- under FgbioCompat: within 2^-52
unfoldable pub fgbio_tie : Float → Float → Bool
fgbio_tie x y = le (abs_of (x ⊖ y)) epsilon

-- bit patterns of the same sign, within 4 of each other
unfoldable pub near_patterns : ℕ → ℕ → Bool
near_patterns a b = beq (leb (2 ^ 63) a) (leb (2 ^ 63) b) && (leb a (b + 4) && leb b (a + 4))

-- under UlpRelative: equal, or of the same sign and within 4 units in the last place; a NaN ties with nothing
unfoldable pub ulp_tie : Float → Float → Bool
ulp_tie x y =
    if eq x y then true
    else if is_nan x then false
    else if is_nan y then false
    else near_patterns (to_bits binary64 x) (to_bits binary64 y)

-- of two lanes as FgbioCompat tests them: the later ties with the earlier where it is not above it and is within 2^-52
unfoldable pub fgbio_tested : Float → Float → Bool
fgbio_tested earlier later = not (lt earlier later) && fgbio_tie later earlier

-- lane j, of the value x, ties with lane i, of the value m, as the rule tests it
unfoldable pub ties_with : TieRule → ℕ → Float → ℕ → Float → Bool
ties_with UlpRelative i m j x = ulp_tie x m
ties_with FgbioCompat i m j x =
    if ltb i j then fgbio_tested m x
    else fgbio_tested x m

-- no lane but i, of the value m, ties with it as the rule tests it
unfoldable pub untied : TieRule → List Float → ℕ → Float → Bool
untied rule xs i m = all_below 4 (λ j. eqb i j || not (ties_with rule i m j (lane xs j)))

-- no lane is above the value m
unfoldable pub none_above : List Float → Float → Bool
none_above xs m = all_below 4 (λ j. not (lt m (lane xs j)))

-- ---- one lane of a scan

-- A lane that is a number, under FgbioCompat: the first, and any above the running maximum, takes over, also after a cancellation; any other that
-- ties with it cancels it.
unfoldable pub fgbio_taken : Option Lead → ℕ → Float → Lead
fgbio_taken None k x = new_lead x k
fgbio_taken (Some l) k x =
    if lt l.best x then new_lead x k
    else if fgbio_tie x l.best then cancelled l
    else l

-- One lane under FgbioCompat: a NaN is skipped.
unfoldable pub fgbio_step : Option Lead → ℕ → Float → Option Lead
fgbio_step r k x =
    if is_nan x then r
    else Some (fgbio_taken r k x)

-- before the first lane under FgbioCompat: none was taken
abbrev pub unseen : Option Lead
unseen = None

-- one lane under UlpRelative: any above the running maximum takes over
unfoldable pub ulp_step : Lead → ℕ → Float → Lead
ulp_step l k x =
    if lt l.best x then new_lead x k
    else l

-- ---- the lane that a rule names

-- fgbio's: the lane of the maximum, none after a cancellation
unfoldable pub fgbio_unique_max_index : List Float → ℕ
fgbio_unique_max_index xs = lane_number (option_and_then (λ l. l.at) (scan fgbio_step unseen xs 4))

-- the lane of the maximum, if that is finite and no other lane ties with it
unfoldable pub unique_max_index : List Float → ℕ
unique_max_index xs =
    let l = scan ulp_step below_every xs 4 in
    let i = lane_number l.at in
    if finite l.best && untied UlpRelative xs i l.best then i
    else no_lane

-- a winning -infinity is no call
unfoldable pub not_minus_infinity : List Float → ℕ → ℕ
not_minus_infinity xs i =
    if ltb i 4 && eq (lane xs i) ln_zero then no_lane
    else i

-- by the rule
unfoldable pub unique_max_index_with : List Float → TieRule → ℕ
unique_max_index_with xs UlpRelative = unique_max_index xs
unique_max_index_with xs FgbioCompat = not_minus_infinity xs (fgbio_unique_max_index xs)
