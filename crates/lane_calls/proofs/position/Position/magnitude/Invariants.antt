-- `magnitude`: after so many lanes it is the largest size of these. Assumes nothing.
use mathlib.Core.Path.{◌≡◌}
use Rattle.lane_calls.specs.Multibase.{magnitude_below}
use Rattle.lane_calls.proofs.position.Position.magnitude.Given as goal

abbrev pub invariant-loop-x : goal.invariant-loop-x
invariant-loop-x l = l.largest ≡ magnitude_below l.self.likelihoods l.m l.x-index
