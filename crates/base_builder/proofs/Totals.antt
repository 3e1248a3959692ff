-- What an observation does to the total of a builder's counts. Assumes nothing.
use mathlib.Core.Path.{◌≡◌}
use mathlib.Core.List.{List}
use Prim.Native.Nat.{ℕ, ◌+◌, ◌<◌}
use native.Mathlib.Omega.{arith}
use Rattle.tie_rules.specs.Lanes.{lanes, counted}
use Rattle.tie_rules.proofs.Lanes.{four}
use Rattle.lane_sums.specs.Observation.{count_of}
use Rattle.base_builder.specs.Builder.{total, full_count}

-- it counts one more, where the builder was not full
pub total_more : (ns : List ℕ) (k : ℕ) → k < 4 → total ns < full_count → total (lanes (λ i. count_of (counted ns i) k i)) ≡ total ns + 1
unfolding total lanes count_of
total_more ns k h t = four (λ (k : ℕ). total (lanes (λ i. count_of (counted ns i) k i)) ≡ total ns + 1) (omega arith) (omega arith) (omega arith) (omega arith) k h
