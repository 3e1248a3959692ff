-- `rest`: after k turns it is the sum over the first k lanes. Assumes nothing.
use mathlib.Core.Path.{◌≡◌}
use Rattle.lane_calls.specs.Multibase.{rest_below}
use Rattle.lane_calls.proofs.position.Position.rest.Given as goal

abbrev pub invariant-loop-k : goal.invariant-loop-k
invariant-loop-k l = l.r ≡ rest_below l.self.likelihoods l.i l.m l.k
