-- `compute`: each table holds what its closure gives at each level. Assumes nothing.
use Rattle.std.proofs.Common.{rules}
use lib.Ieee.{nan}
use Rattle.rate_tables.specs.Adjusted.{adjusted_tables, correct_at, error_per_alt_at}
use Rattle.words.proofs.Listed.{filled_by_calls}
use Rattle.rate_tables.proofs.adjusted.AdjustedProbabilityTables.compute.Goals as goal

pub returns : goal.returns
unfolding adjusted_tables
returns c =
    let correct = filled_by_calls _ _ (correct_at c.args.error_rate_post_umi.0) nan 94 (λ i y d l k. (search rules, search rules)) c.from_fn.result c.from_fn.ensures.items in
    let error = filled_by_calls _ _ (error_per_alt_at c.args.error_rate_post_umi.0) nan 94 (λ i y d l k. (search rules, search rules)) c.from_fn-2.result c.from_fn-2.ensures.items in
    cc
