-- `observed`: the four lanes, and the four counts. Assumes nothing.
use Rattle.std.proofs.Common.{rules}
use Rattle.tie_rules.specs.Lanes.{counted}
use Rattle.lane_sums.specs.Observation.{count_of}
use Rattle.lane_sums.proofs.Made.{made}
use Rattle.base_builder.proofs.builder.ConsensusBaseBuilder.observed.Goals as goal

pub returns : goal.returns
returns c =
    let counts = made _ _ (λ i. count_of (counted c.args.self.observations i) c.args.k i) (λ i y d l k. (search rules, search rules)) c.from_fn.result c.from_fn.ensures.items in
    rw (c.moved_lanes.ensures, counts)
