-- `builder_of`: the four lanes of each. Assumes nothing.
use Rattle.std.proofs.Common.{◌+◌, ◌*◌, rules}
use Rattle.float.specs.Ops.{bits}
use Rattle.lent_bytes.specs.Bytes.{number_at}
use Rattle.lane_sums.proofs.Made.{made}
use Rattle.export_reports.specs.State.{builder_of}
use Rattle.export_reports.proofs.state.builder_of.Goals as goal

pub returns : goal.returns
unfolding builder_of
returns c =
    let s = c.args.state.now in
    let likelihoods = made _ _ (λ i. bits (number_at s 8 (8 * i))) (λ i y d l k. (search rules, search rules)) c.from_fn.result c.from_fn.ensures.items in
    let compensations = made _ _ (λ i. bits (number_at s 8 (32 + 8 * i))) (λ i y d l k. (search rules, search rules)) c.from_fn-2.result c.from_fn-2.ensures.items in
    let observations = made _ _ (λ i. number_at s 4 (64 + 4 * i)) (λ i y d l k. (search rules, search rules)) c.from_fn-3.result c.from_fn-3.ensures.items in
    rw (likelihoods, compensations, observations, c.phred_to_ln_error_prob.ensures)
