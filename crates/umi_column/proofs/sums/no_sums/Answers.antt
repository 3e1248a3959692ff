-- `no_sums`: zeros. Assumes nothing.
use mathlib.Core.Path.{refl}
use Rattle.umi_column.specs.Sums.{no_sums}
use Rattle.umi_column.proofs.sums.no_sums.Goals as goal

pub returns : goal.returns
unfolding no_sums
returns c = refl
