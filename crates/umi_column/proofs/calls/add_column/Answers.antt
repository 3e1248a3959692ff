use Rattle.std.proofs.Common.{sym, ◌∙◌, arith, rules}
use Rattle.umi_column.proofs.Added.{added_more, added_none}
use Rattle.umi_column.proofs.calls.add_column.Goals as goal

pub loop-byte-preserved : goal.loop-byte-preserved
loop-byte-preserved c =
    let e = c.args.entry in
    added_more e.correct e.error_per_alt c.args.column.now c.loop-byte.byte-index c.loop-byte.after _ (omega arith) (search rules) ∙ c.loop-byte.invariant

pub returns : goal.returns
returns c =
    let e = c.args.entry in
    sym (added_none e.correct e.error_per_alt c.args.column.now c.loop-byte.byte-index c.loop-byte.after (omega arith)) ∙ c.loop-byte.invariant
