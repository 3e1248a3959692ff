-- `add_base`: a byte that is no base, and one that is: what lies in the window from its start on is what the definition reads. Assumes nothing.
use mathlib.Core.Path.{sym, ◌∙◌}
use native.Mathlib.Nat.{add-zero}
use Rattle.tie_rules.specs.Lanes.{lanes}
use Rattle.umi_column.specs.Sums.{summed_by}
use Rattle.umi_column.proofs.sums.add_base.Goals as goal

pub returns-then-not-is_base : goal.returns-then-not-is_base
unfolding summed_by
returns-then-not-is_base c = rw (sym c.is_base.ensures ∙ c.if-not-is_base.true)

pub returns : goal.returns
unfolding summed_by lanes
returns c =
    let base = sym c.is_base.ensures ∙ c.if-not-is_base.false in
    rw (base, ← c.lanes_after-start.ensures.base base, add-zero) c.moved_lanes.ensures
