use mathlib.Core.Bool.{and-true}
use Rattle.std.proofs.Common.{sym, ◌∙◌, arith}
use Rattle.umi_verdicts.proofs.Likeness.{like_lengths, like_more, like_done}
use Rattle.umi_verdicts.proofs.rows.like_row.Goals as goal

pub returns-then-first-row : goal.returns-then-first-row
returns-then-first-row c = like_lengths c.args.first.now c.args.row.now c.if-first-row.true

pub loop-i-preserved : goal.loop-i-preserved
loop-i-preserved c =
    rw (c.is_dna_base.ensures, c.is_dna_base-in-loop-i.ensures) (like_more c.args.first.now c.args.row.now c.loop-i.i c.loop-i.like (omega arith) (omega arith)) ∙ c.loop-i.invariant

pub returns : goal.returns
returns c =
    sym (and-true c.loop-i.like) ∙ (rw (like_done c.args.first.now c.args.row.now c.loop-i.i (omega arith) (omega arith)) at c.loop-i.invariant)
