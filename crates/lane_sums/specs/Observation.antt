-- What one observation does to the lanes.
use Rattle.std.specs.Prelude.{ℕ, ◌+◌, ◌%◌, ◌^◌, ◌==◌, Float}
use Rattle.float.specs.Ops.{◌⊕◌, ◌⊖◌}
use Rattle.std.specs.Prelude.{if◌then◌else◌}
use Rattle.tie_rules.specs.Lanes.{lanes, lane}
use Rattle.lane_sums.specs.declared.observation.Sum.{Sum}
use Rattle.lane_sums.specs.declared.observation.LaneSums.{LaneSums}

-- Kahan's step: y = value - compensation; t = lane + y; compensation = (t - lane) - y; lane = t
unfoldable pub moved_by : Float → Sum → Sum
moved_by value s =
    let y = value ⊖ s.compensation in
    let t = s.lane ⊕ y in
    record { lane = t; compensation = t ⊖ s.lane ⊖ y }

-- the sum of one lane and its compensation
abbrev pub sum_at : LaneSums → ℕ → Sum
sum_at s i = record { lane = lane s.likelihoods i; compensation = lane s.compensations i }

-- each lane moved by its value
abbrev pub moved_lanes : (ℕ → Float) → LaneSums → LaneSums
moved_lanes value s =
    record {
      likelihoods = lanes (λ i. (moved_by (value i) (sum_at s i)).lane);
      compensations = lanes (λ i. (moved_by (value i) (sum_at s i)).compensation);
    }

-- what lane i is moved by where lane k was observed: the one logarithm at that lane, the other at the three others
unfoldable pub value_of : Float → Float → ℕ → ℕ → Float
value_of correct error k i =
    if i == k then correct
    else error

-- the count of lane i after lane k was observed, in 32 bits
unfoldable pub count_of : ℕ → ℕ → ℕ → ℕ
count_of n k i =
    if i == k then (n + 1) % 2 ^ 32
    else n
