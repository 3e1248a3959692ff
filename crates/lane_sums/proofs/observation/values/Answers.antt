-- `values`: each lane's value. Assumes nothing.
use Rattle.std.proofs.Common.{rules, arith}
use Rattle.std.proofs.lemmas.Grind.{common_steps}
use Rattle.lane_sums.specs.Observation.{value_of}
use Rattle.lane_sums.proofs.Made.{made}
use Rattle.lane_sums.proofs.observation.values.Goals as goal

pub returns : goal.returns
unfolding value_of
returns c = made _ _ (value_of c.args.correct c.args.error c.args.k) (λ i y d l k. (grind (arith, common_steps), search rules)) c.from_fn.result c.from_fn.ensures.items
