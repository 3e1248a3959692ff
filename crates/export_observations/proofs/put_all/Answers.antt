-- `put_all`: the three parts. Assumes nothing.
use Rattle.lent_text.proofs.Printed.{print_then, printed_as}
use Rattle.export_observations.proofs.Laws.{three_parts}
use Rattle.export_observations.proofs.put_all.Goals as goal

pub returns : goal.returns
returns c =
    let all = rw c.all_observations-all.ensures at c.put_counts.ensures in
    printed_as (print_then (rw c.contributions.ensures at c.four.ensures) (print_then c.put_bases.ensures all)) (three_parts c.args.builder)
