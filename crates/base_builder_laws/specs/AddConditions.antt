-- Condition 11: where a base is refused, and what that leaves.
use Rattle.std.specs.Prelude.{◌≡◌, Bool, true, false, not, ◌&&◌, List, ℕ, eqb, Float}
use Rattle.refusals.specs.Refusals.{number_in}
use Rattle.tie_rules.specs.Lanes.{no_lane, lane_of_byte}
use Rattle.base_builder.specs.declared.builder.ConsensusBaseBuilder.{ConsensusBaseBuilder}
use Rattle.base_builder.specs.Builder.{is_full, added, add_answer}

-- the byte is a base, and the builder has counted 4,294,967,295 or more
abbrev pub meets_full : ℕ → ConsensusBaseBuilder → Bool
meets_full base b = not (eqb (lane_of_byte base) no_lane) && is_full b

pub record AddConditions (base : ℕ) (b : ConsensusBaseBuilder) : Type 0 where
  -- 11: a base that meets a full builder
  pub full : meets_full base b ≡ true → number_in (add_answer base b) ≡ 11
  -- and none else, for every byte and builder
  pub accepted_else : meets_full base b ≡ false → number_in (add_answer base b) ≡ 0
  -- what is refused leaves the builder as it was, with any tables and at any quality
  pub unchanged : number_in (add_answer base b) ≡ 11 → (correct error : List Float) (q : ℕ) → added correct error base q b ≡ b
