-- `walk_columns`: the columns passed and those still to read are the columns, and of those passed the first faulty observation decides, at each turn. Assumes nothing.
use mathlib.Core.Path.{◌≡◌, sym, ◌∙◌, ap}
use Rattle.string_set.proofs.Readers.{passed_none, passed_more, passed_cut, passed_all}
use Rattle.column_file.specs.Format.{column}
use Rattle.refusals.specs.Result.{or_else}
use Rattle.column_file.specs.Reading.{column_verdict, columns_verdict}
use Rattle.column_file.specs.Places.{observations_in}
use Rattle.column_file.proofs.Front.{verdict_more, and_verdicts}
use Rattle.column_file.proofs.columns.walk_columns.Goals as goal

pub returns-in_err-column : goal.returns-in_err-column
returns-in_err-column c = rw c.from_residual.ensures (passed_cut column _ _ c.loop.counter _ c.loop.invariant.0 c.loop-test.true c.in_err-column.ensures)

pub loop-init : goal.loop-init
unfolding columns_verdict
loop-init c = let none = passed_none column c.args.bytes.now c.args.n in (none.0, rw none.1)

pub loop-preserved : goal.loop-preserved
loop-preserved c =
    let more = passed_more column _ _ c.loop.counter _ c.loop.invariant.0 c.loop-test.true c.in_ok-column.ensures.0 in
    let seen = c.loop.invariant.0.0 in
    let column = observations_in c.in_ok-column.column.now in
    let said : or_else c.loop.verdict c.column_verdict.result ≡ or_else (columns_verdict seen) (column_verdict column) = rw (c.loop.invariant.1, c.column_verdict.ensures) in
    (more.0, c.and-verdict.ensures ∙ and_verdicts c.loop.verdict c.column_verdict.result ∙ said ∙ sym (verdict_more seen column) ∙ ap columns_verdict (sym more.1))

pub returns : goal.returns
returns c = (c.loop.invariant.0.0, passed_all column _ _ c.loop.counter _ c.loop.invariant.0 c.loop-test.false, c.loop.invariant.1)
