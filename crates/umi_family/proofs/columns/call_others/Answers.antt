use Rattle.umi_count_laws.proofs.Named.{named_by_counts}
use Rattle.umi_family.proofs.columns.call_others.Goals as goal

pub call_counted-requires-clause-faithful : goal.call_counted-requires-clause-faithful
call_counted-requires-clause-faithful c =
    let so = c.counts_decide.ensures c.if-counts_decide.true in
    rw c.window_of-window.ensures (named_by_counts c.args.entry.correct c.args.entry.error_per_alt so.1)
