-- `moved_lanes`: each lane's step. Assumes nothing.
use Rattle.std.proofs.Common.{ℕ, rules}
use Rattle.tie_rules.specs.Lanes.{lane}
use Rattle.lane_sums.specs.declared.observation.Sum.{Sum}
use Rattle.lane_sums.specs.Observation.{moved_by, sum_at}
use Rattle.lane_sums.proofs.Made.{made, mapped}
use Rattle.lane_sums.proofs.observation.moved_lanes.Goals as goal

pub returns : goal.returns
returns c =
    let after = λ (i : ℕ). moved_by (lane c.args.values i) (sum_at c.args.sums i) in
    let steps = made _ _ after (λ i y d l k. (search rules, search rules)) c.from_fn-after.result c.from_fn-after.ensures.items in
    let likelihoods = mapped _ _ (λ (s : Sum). s.lane) (λ x y d k. (search rules, search rules)) after c.from_fn-after.result c.map.result steps c.map.ensures.items in
    let compensations = mapped _ _ (λ (s : Sum). s.compensation) (λ x y d k. (search rules, search rules)) after c.from_fn-after.result c.map-2.result steps c.map-2.ensures.items in
    cc
