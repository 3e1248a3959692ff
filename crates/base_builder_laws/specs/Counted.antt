-- What a list of events leaves counted, and what four lanes that were moved by these observations hold.
use Rattle.std.specs.Prelude.{ℕ, ◌+◌, ◌||◌, List, [], ◌∷◌, leb, eqb, get_or, length, Float}
use Rattle.std.specs.Float.{nan}
use Rattle.float.specs.Ops.{plus_zero}
use Rattle.std.specs.Prelude.{if◌then◌else◌}
use Rattle.rate_tables.specs.declared.adjusted.AdjustedProbabilityTables.{AdjustedProbabilityTables}
use Rattle.tie_rules.specs.Lanes.{no_lane, lane_of_byte}
use Rattle.lane_sums.specs.declared.observation.Sum.{Sum}
use Rattle.lane_sums.specs.Observation.{moved_by, value_of}
use Rattle.base_builder.specs.Builder.{entry_of, full_count}
use Rattle.base_builder.specs.History.{Event, add, reset, set_tie_rule}

-- an observation that was counted: its lane and its quality
pub record CountedObservation : Type 0 where
  pub at : ℕ
  pub quality : ℕ

-- the observations counted since the last reset, the latest first, where those of os were counted before
unfoldable pub counted_since : List CountedObservation → List Event → List CountedObservation
counted_since os [] = os
counted_since os (add base q ∷ es) =
    counted_since
    (if eqb (lane_of_byte base) no_lane || leb full_count (length os) then os
    else record { at = lane_of_byte base; quality = q } ∷ os)
    es
counted_since os (reset ∷ es) = counted_since [] es
counted_since os (set_tie_rule rule ∷ es) = counted_since os es

-- the values of lane i: the table's one entry where the base was its own, the other where it was another
unfoldable pub values_of : AdjustedProbabilityTables → ℕ → List CountedObservation → List Float
values_of t i [] = []
values_of t i (o ∷ os) =
    let q = entry_of o.quality in
    value_of (get_or t.correct q nan) (get_or t.error_per_alt q nan) o.at i ∷ values_of t i os

-- the sum of values by Kahan's rule, the latest first
unfoldable pub kahan : List Float → Sum
kahan [] = record { lane = plus_zero; compensation = plus_zero }
kahan (v ∷ vs) = moved_by v (kahan vs)

-- how many of them are of lane i
unfoldable pub times_counted : ℕ → List CountedObservation → ℕ
times_counted i [] = 0
times_counted i (o ∷ os) =
    if eqb i o.at then times_counted i os + 1
    else times_counted i os
