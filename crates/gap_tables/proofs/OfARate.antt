-- For every pre-UMI rate: the gap thresholds never fall as the level rises; every finite one is a gap at which the formula
-- reaches its level; one is 0 exactly when gap 0 reaches its level, and infinite exactly when neither gap 0 nor gap 256 does. Assumes nothing.
use Prim.Native.Nat.{ℕ}
use Rattle.phred.specs.Phred.{phred_to_ln_error_prob}
use Rattle.gap_tables.specs.Thresholds.{Thresholds}
use Rattle.gap_tables.specs.Gaps.{unanimous_quality_from_gap}
use Rattle.gap_tables.proofs.Promised.{thresholds_promised}

pub thresholds_of_a_rate : (pre : ℕ) → Thresholds (unanimous_quality_from_gap (phred_to_ln_error_prob pre))
thresholds_of_a_rate pre = thresholds_promised (unanimous_quality_from_gap (phred_to_ln_error_prob pre))
