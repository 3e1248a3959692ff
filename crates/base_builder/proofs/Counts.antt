-- A base that is added with room left is observed. Assumes nothing.
use mathlib.Core.Path.{◌≡◌, sym, ◌∙◌}
use Prim.Native.Nat.{ℕ, ◌<◌}
use native.Mathlib.Omega.{arith}
use borrow.Author.Tests.{ne_eqb, lt-leb}
use lib.Ieee.{Float}
use Rattle.std.specs.Prelude.{Ok}
use Rattle.tie_rules.specs.Lanes.{lanes, lane, no_lane, lane_of_byte}
use Rattle.lane_sums.specs.Observation.{value_of}
use Rattle.base_builder.specs.declared.builder.ConsensusBaseBuilder.{ConsensusBaseBuilder}
use Rattle.base_builder.specs.Builder.{total, full_count, is_full, observed_by, observed, added_by, add_answer}

module _ (base k : ℕ) (b : ConsensusBaseBuilder) (at : k ≡ lane_of_byte base) (inside : k < 4) (room : total b.observations < full_count) where
  pub counts : (correct error : Float) (after : ConsensusBaseBuilder) → after ≡ observed_by (lane (lanes (value_of correct error k))) k b → after ≡ added_by correct error base b
  unfolding added_by is_full observed lanes
  counts correct error after o = o ∙ sym (rw (← at, ne_eqb k no_lane (λ (e : k ≡ no_lane). omega arith), lt-leb full_count (total b.observations) room))

  pub answers : add_answer base b ≡ Ok tt
  unfolding add_answer is_full
  answers = rw (← at, ne_eqb k no_lane (λ (e : k ≡ no_lane). omega arith), lt-leb full_count (total b.observations) room)
