-- `build_unanimous_gap_tables`: the cap is a level, so the errors are read inside the thresholds. Assumes nothing.
use Rattle.std.proofs.Common.{rules, ◌≤◌, arith}
use Rattle.std.proofs.iter.Serving.{serving}
use Rattle.phred.proofs.Levels.{levels}
use lib.Ieee.{nan}
use Rattle.words.proofs.Listed.{filled_by_calls}
use Rattle.gap_tables.specs.Gaps.{gap_tables, cap_of, cerr_from}
use Rattle.gap_tables.proofs.gaps.build_unanimous_gap_tables.Goals as goal

pub from_fn-cerr_min-requires : goal.from_fn-cerr_min-requires
from_fn-cerr_min-requires c =
    let level = (levels c.phred_to_ln_error_prob-pre.result.0).1 in
    let cap : c.from-cap.result ≤ 93 = omega (arith, level) in
    (omega arith, grind serving)

pub returns : goal.returns
unfolding gap_tables cap_of
returns c =
    let errors = filled_by_calls _ _ (cerr_from c.build_unanimous_gap_thresholds-thresholds.result c.from-cap.result) nan 94 (λ i y d l k. (search rules, search rules)) c.from_fn-cerr_min.result c.from_fn-cerr_min.ensures.items in
    cc
