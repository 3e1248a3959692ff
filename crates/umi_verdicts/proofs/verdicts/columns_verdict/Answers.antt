use Rattle.std.proofs.Common.{◌∙◌, arith}
use Rattle.std.proofs.lemmas.Result.{err_from_is_err_and}
use Rattle.umi_rows.specs.Rows.{row_columns_at}
use Rattle.umi_rows.proofs.ColumnLoops.{columns_length}
use Rattle.umi_verdicts.proofs.Refusals.{refusal_more, refusal_found, refusal_none, column_said}
use Rattle.umi_verdicts.proofs.verdicts.columns_verdict.Goals as goal

pub returns-in_err-column_verdict : goal.returns-in_err-column_verdict
returns-in_err-column_verdict c =
    let f = c.args.family.now in
    let size = columns_length f.width f.set.now f.places.now in
    let said = column_said f.width f.set.now f.places.now c.loop-at.at _ _ f.fit.few c.loop-at-test.true c.column-column.ensures c.column_verdict.ensures.verdict in
    let refused = err_from_is_err_and c.from_residual.result c.from_residual.ensures.1 in
    rw (refused.1, refused.2) (refusal_found (row_columns_at f.width f.set.now f.places.now) c.loop-at.at (omega arith) _ (said ∙ c.in_err-column_verdict.was) ∙ c.loop-at.invariant)

pub loop-at-preserved : goal.loop-at-preserved
loop-at-preserved c =
    let f = c.args.family.now in
    let size = columns_length f.width f.set.now f.places.now in
    let said = column_said f.width f.set.now f.places.now c.loop-at.at _ _ f.fit.few c.loop-at-test.true c.column-column.ensures c.column_verdict.ensures.verdict in
    refusal_more (row_columns_at f.width f.set.now f.places.now) c.loop-at.at (omega arith) (said ∙ c.in_ok-column_verdict.was) ∙ c.loop-at.invariant

pub returns : goal.returns
returns c =
    let f = c.args.family.now in
    let size = columns_length f.width f.set.now f.places.now in
    refusal_none (row_columns_at f.width f.set.now f.places.now) c.loop-at.at (omega arith) ∙ c.loop-at.invariant
