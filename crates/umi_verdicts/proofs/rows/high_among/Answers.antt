-- `high_among`: what those passed say, and one more. Assumes nothing.
use Rattle.std.proofs.Common.{sym, ap, ◌∙◌, Bool, ◌||◌, arith}
use Rattle.std.proofs.lemmas.List.Folds.{list_any_more}
use lib.ListN.{get_or}
use Rattle.umi_rows.specs.Rows.{is_high}
use Rattle.umi_verdicts.proofs.rows.high_among.Goals as goal

pub loop-byte-preserved : goal.loop-byte-preserved
loop-byte-preserved c =
    let s = c.args.bytes.now in
    let i = c.loop-byte.byte-index in
    ap (λ (b : Bool). b || is_high (get_or s i 0)) c.loop-byte.invariant ∙ sym (list_any_more is_high s i 0 (omega arith))
