-- `records`: a file that is refused, too little room, and the records of the others. Assumes nothing.
use Rattle.std.proofs.Common.{rules}
use mathlib.Core.Path.{refl, ◌∙◌}
use Prim.Native.Nat.{◌≤◌}
use lib.ListN.{length}
use native.Mathlib.Omega.{arith}
use Rattle.std.proofs.lemmas.Result.{err_from_is_err_and}
use Rattle.lent_text.proofs.Printed.{printed_written}
use Rattle.judged_file.proofs.Judged.{said_refused}
use Rattle.column_records.specs.Records.{records_of, records_in}
use Rattle.column_records.proofs.Replies.{records_at, records_said, no_room, all_put}
use Rattle.column_records.proofs.columns.records.Goals as goal

pub returns-in_err-judged : goal.returns-in_err-judged
unfolding records_of records_in
returns-in_err-judged c =
    let p = err_from_is_err_and c.from_residual.result c.from_residual.ensures.1 in
    let e = said_refused _ _ c.judge.result c.judge.ensures.judged c.in_err-judged.field-0.0 c.in_err-judged.was in
    record { answer = rw (p.1, p.2, e); lent = rw e; number = rw (p.1, p.2, e) }

pub overflow_mul-places : goal.overflow_mul-places
overflow_mul-places c =
    let t = records_said c.args.file.now c.judge.result c.judge.ensures.judged c.in_ok-judged.judged c.in_ok-judged.was in
    omega (arith, t.few)

pub returns-then-out-places : goal.returns-then-out-places
returns-then-out-places c =
    let t = records_said c.args.file.now c.judge.result c.judge.ensures.judged c.in_ok-judged.judged c.in_ok-judged.was in
    let e = no_room c.args.file.now c.args.out.now _ t.is (omega (arith, t.size, c.if-out-places.true)) in
    record { answer = rw e; lent = rw e; number = rw e }

pub returns : goal.returns
returns c =
    let t = records_said c.args.file.now c.judge.result c.judge.ensures.judged c.in_ok-judged.judged c.in_ok-judged.was in
    let fits : length (records_at c.args.file.now c.in_ok-judged.judged) ≤ length c.args.out.now = omega (arith, t.size, c.if-out-places.false) in
    let e = all_put c.args.file.now c.args.out.now _ t.is fits in
    let put = printed_written (rw c.new-caller.ensures at c.put_records.ensures) refl fits in
    record { answer = rw (e, put.0); lent = (search rules) ∙ put.1 ∙ rw e; number = rw e }
