-- As it is run; `named_by_counts` (umi_count_laws/proofs/Named) joins it to `unique_max_index_with`: how many bytes are each base, and when these counts alone
-- name the lane.
use Rattle.std.specs.Prelude.{ℕ, suc, ◌<◌, Bool, ◌&&◌, List, [], ◌∷◌, ◌≢◌, eqb, Float}
use Rattle.std.specs.Float.Ieee.{le, neg}
use Rattle.float.specs.Ops.{◌⊖◌, bits, plus_zero, two}
use Rattle.std.specs.Prelude.{if◌then◌else◌}
use Rattle.tie_rules.specs.Lanes.{lane_of_byte}

-- how many bytes stand for lane k
unfoldable pub times_observed : ℕ → List ℕ → ℕ
times_observed k [] = 0
times_observed k (x ∷ xs) =
    if eqb (lane_of_byte x) k then suc (times_observed k xs)
    else times_observed k xs

-- -32
abbrev pub minus32 : Float
minus32 = neg (bits 0x4040_0000_0000_0000)

-- the two logarithms of an observation lie from -32 to 0 and at least 2 apart: then no rounding puts a lane above one that was observed more often
unfoldable pub logarithms_apart : Float → Float → Bool
logarithms_apart correct error = le minus32 error && le correct plus_zero && le two (correct ⊖ error)

-- lane i was observed more often than each other
abbrev pub Leads : List ℕ → ℕ → Type 0
Leads column i = (j : ℕ) → j < 4 → j ≢ i → times_observed j column < times_observed i column
