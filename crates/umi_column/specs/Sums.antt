-- As it is run; `sums_byte` (umi_column/proofs/SumLaws) joins it to `named_byte`: Kahan's sums of a column's four lanes, with no counts.
use Rattle.std.specs.Prelude.{ℕ, ◌+◌, ◌-◌, List, [], ◌∷◌, Float, get_or, replicate}
use Rattle.std.specs.Float.{nan}
use Rattle.float.specs.Ops.{plus_zero}
use Rattle.std.specs.Prelude.{if◌then◌else◌}
use Rattle.tie_rules.specs.declared.tie_rule.TieRule.{TieRule}
use Rattle.tie_rules.specs.Lanes.{lane_of_byte, is_base, base_of}
use Rattle.tie_rules.specs.Ties.{unique_max_index_with}
use Rattle.lane_sums.specs.declared.observation.LaneSums.{LaneSums}
use Rattle.lane_sums.specs.Observation.{moved_lanes}
use Rattle.umi_column.specs.Dna.{is_dna_base}

-- before the first byte
unfoldable pub no_sums : LaneSums
no_sums = record { likelihoods = replicate 4 plus_zero; compensations = replicate 4 plus_zero }

-- the sums after a byte, by a window (`window_of`, observation_windows/specs/Windows): one that is no base leaves them as they are
unfoldable pub summed_by : List Float → ℕ → LaneSums → LaneSums
summed_by window x s =
    if is_base x then moved_lanes (λ i. get_or window (3 - lane_of_byte x + i) nan) s
    else s

-- after a column
unfoldable pub summed_all : List Float → List ℕ → LaneSums → LaneSums
summed_all window [] s = s
summed_all window (x ∷ xs) s = summed_all window xs (summed_by window x s)

-- the byte of a column whose first byte is this one, by its lanes
unfoldable pub byte_by : List Float → TieRule → ℕ → ℕ
byte_by likelihoods rule first =
    if is_dna_base first then base_of (unique_max_index_with likelihoods rule)
    else first
