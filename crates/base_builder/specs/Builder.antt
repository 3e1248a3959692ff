-- The builder of one position and its calls.
use Rattle.std.specs.Prelude.{ℕ, ◌+◌, ◌%◌, ◌^◌, min, Bool, not, ◌&&◌, ◌||◌, Ok, Err, List, leb, ltb, eqb, get_or, replicate, Float}
use Rattle.std.specs.Float.{nan}
use Rattle.float.specs.Ops.{plus_zero}
use Rattle.std.specs.Prelude.{if◌then◌else◌}
use Rattle.phred.specs.Phred.{phred_to_ln_error_prob}
use Rattle.phred.specs.declared.LogProbability.{LogProbability}
use Rattle.refusals.specs.declared.Refusal.TheVariants.{FullBuilder}
use Rattle.refusals.specs.Refusals.{number_of}
use Rattle.refusals.specs.Result.{Verdict}
use Rattle.tie_rules.specs.declared.tie_rule.TieRule.{TieRule}
use Rattle.tie_rules.specs.declared.tie_rule.TieRule.TheVariants.{FgbioCompat}
use Rattle.lane_sums.specs.declared.observation.Sum.{Sum}
use Rattle.lane_sums.specs.declared.observation.LaneSums.{LaneSums}
use Rattle.base_builder.specs.declared.builder.ConsensusBaseBuilder.{ConsensusBaseBuilder}
use Rattle.tie_rules.specs.Lanes.{lanes, no_lane, lane_of_byte, counted}
use Rattle.lane_sums.specs.Observation.{sum_at, moved_lanes, value_of, count_of}

-- all counts together
unfoldable pub total : List ℕ → ℕ
total ns = counted ns 0 + counted ns 1 + counted ns 2 + counted ns 3

-- a builder that has seen nothing
unfoldable pub cleared : TieRule → LogProbability → ConsensusBaseBuilder
cleared rule pre =
    record {
      likelihoods = replicate 4 plus_zero;
      compensations = replicate 4 plus_zero;
      observations = replicate 4 0;
      tie_rule = rule;
      ln_error_pre_umi = pre;
    }

-- a new builder at a pre-UMI rate, under the default rule
unfoldable pub new_at : ℕ → ConsensusBaseBuilder
new_at pre = cleared FgbioCompat (record { 0 = phred_to_ln_error_prob pre })

-- the same builder under another rule
unfoldable pub with_tie_rule : TieRule → ConsensusBaseBuilder → ConsensusBaseBuilder
with_tie_rule rule b =
    record {
      likelihoods = b.likelihoods;
      compensations = b.compensations;
      observations = b.observations;
      tie_rule = rule;
      ln_error_pre_umi = b.ln_error_pre_umi;
    }

-- the same builder, made to see nothing
unfoldable pub reset_of : ConsensusBaseBuilder → ConsensusBaseBuilder
reset_of b = cleared b.tie_rule b.ln_error_pre_umi

-- the sums of a builder's lanes
abbrev pub sums_of : ConsensusBaseBuilder → LaneSums
sums_of b = record { likelihoods = b.likelihoods; compensations = b.compensations }

-- that of one lane
abbrev pub sum_of : ConsensusBaseBuilder → ℕ → Sum
sum_of b i = sum_at (sums_of b) i

-- the builder after lane k was observed: each lane moved by its value, and lane k counted
abbrev pub observed_by : (ℕ → Float) → ℕ → ConsensusBaseBuilder → ConsensusBaseBuilder
observed_by value k b =
    record {
      likelihoods = (moved_lanes value (sums_of b)).likelihoods;
      compensations = (moved_lanes value (sums_of b)).compensations;
      observations = lanes (λ i. count_of (counted b.observations i) k i);
      tie_rule = b.tie_rule;
      ln_error_pre_umi = b.ln_error_pre_umi;
    }

-- the same where the values are made of these two logarithms
unfoldable pub observed : Float → Float → ℕ → ConsensusBaseBuilder → ConsensusBaseBuilder
observed correct error k b = observed_by (value_of correct error k) k b

-- the entry of a quality: qualities above 93 use entry 93
abbrev pub entry_of : ℕ → ℕ
entry_of q = min q 93

-- the number of observations that fill a builder
abbrev pub full_count : ℕ
full_count = 4294967295

-- nothing more can be counted
unfoldable pub is_full : ConsensusBaseBuilder → Bool
is_full b = leb full_count (total b.observations)

-- the builder after a base was added with these two logarithms: a byte that is no base is ignored, and a full builder stays as it is
unfoldable pub added_by : Float → Float → ℕ → ConsensusBaseBuilder → ConsensusBaseBuilder
added_by correct error base b =
    let k = lane_of_byte base in
    if eqb k no_lane || is_full b then b
    else observed correct error k b

-- after it was added at a quality
unfoldable pub added : List Float → List Float → ℕ → ℕ → ConsensusBaseBuilder → ConsensusBaseBuilder
added correct error base q b = added_by (get_or correct (entry_of q) nan) (get_or error (entry_of q) nan) base b

-- the answer: refused where a base meets a full builder
unfoldable pub add_answer : ℕ → ConsensusBaseBuilder → Verdict
add_answer base b =
    if eqb (lane_of_byte base) no_lane then Ok tt
    else if is_full b then Err FullBuilder
    else Ok tt

-- the number of the refusal that a byte meets, 0 for none: a base is refused at a full builder
unfoldable pub refusal_of : ℕ → ConsensusBaseBuilder → ℕ
refusal_of base b =
    if not (eqb (lane_of_byte base) no_lane) && is_full b then number_of FullBuilder
    else 0

-- the number of bases that contributed, in 32 bits
unfoldable pub contributions_of : ConsensusBaseBuilder → ℕ
contributions_of b = total b.observations % 2 ^ 32

-- the number of observations of a base, 0 for a byte that is none
unfoldable pub observations_for_base : ConsensusBaseBuilder → ℕ → ℕ
observations_for_base b base =
    if ltb (lane_of_byte base) no_lane then counted b.observations (lane_of_byte base)
    else 0
