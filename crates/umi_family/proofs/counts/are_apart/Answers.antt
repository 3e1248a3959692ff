-- `are_apart`: the three tests. Assumes nothing.
use mathlib.Core.Path.{refl}
use lib.Ieee.{le}
use Rattle.umi_count_laws.specs.Counts.{logarithms_apart}
use Rattle.umi_family.proofs.counts.are_apart.Goals as goal

pub returns : goal.returns
unfolding le logarithms_apart
returns c = refl
