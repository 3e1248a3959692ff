-- `build_unanimous_gap_thresholds`: each level's threshold, with gap 0 and gap 256 evaluated before. Assumes nothing.
use Rattle.std.proofs.Common.{rules}
use lib.Ieee.{nan}
use Rattle.words.proofs.Listed.{filled_by_calls}
use Rattle.gap_tables.specs.Gaps.{threshold_at}
use Rattle.gap_tables.proofs.gaps.build_unanimous_gap_thresholds.Goals as goal

pub returns : goal.returns
returns c = filled_by_calls _ _ (threshold_at c.args.error_rate_pre_umi.0) nan 94 (λ i y d l k. (search rules, search rules)) c.from_fn.result c.from_fn.ensures.items
