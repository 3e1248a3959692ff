-- `put_bases`: one more is printed. Assumes nothing.
use Rattle.std.proofs.Common.{sym, arith}
use Rattle.base_builder.specs.Builder.{observations_for_base}
use Rattle.words.specs.Lists.{listed}
use Rattle.lent_text.proofs.Printed.{print_then, print_none, printed_as}
use Rattle.export_observations.proofs.Laws.{fours_more}
use Rattle.export_observations.proofs.put_bases.Goals as goal

pub loop-base-init : goal.loop-base-init
unfolding listed
loop-base-init c = print_none _ (omega arith) c.requires

pub loop-base-preserved : goal.loop-base-preserved
loop-base-preserved c =
    printed_as (print_then c.loop-base.invariant (rw c.observations_for_base.ensures at c.four.ensures)) (sym (fours_more (observations_for_base c.args.builder) c.loop-base.base))
