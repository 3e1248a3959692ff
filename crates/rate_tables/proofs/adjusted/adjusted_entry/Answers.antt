-- `adjusted_entry`: the entry of a level is what the level gives. Assumes nothing.
use Prim.Native.Nat.{◌<◌}
use native.Mathlib.Omega.{arith}
use Rattle.std.specs.Float.{nan}
use Rattle.words.proofs.Listed.{level_at}
use Rattle.rate_tables.specs.Adjusted.{adjusted_tables, correct_at, error_per_alt_at}
use Rattle.rate_tables.proofs.adjusted.adjusted_entry.Goals as goal

pub returns : goal.returns
unfolding adjusted_tables
returns c =
    let post = c.args.error_rate_post_umi.0 in
    let q = c.min-q.result in
    let inside : q < 94 = omega arith in
    let correct = level_at (correct_at post) nan 94 q inside in
    let error = level_at (error_per_alt_at post) nan 94 q inside in
    cc
