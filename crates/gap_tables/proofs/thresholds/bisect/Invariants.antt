-- `bisect`: after so many turns the ends are those after so many halvings. Assumes nothing.
use mathlib.Core.Path.{◌≡◌}
use Rattle.gap_tables.specs.Thresholds.{reaches, halvings}
use Rattle.gap_tables.specs.Gaps.{unanimous_quality_from_gap}
use Rattle.gap_tables.proofs.thresholds.bisect.Given as goal

abbrev pub invariant-loop : goal.invariant-loop
invariant-loop l = l.e ≡ halvings (reaches (unanimous_quality_from_gap l.pre.0) l.level) l.counter
