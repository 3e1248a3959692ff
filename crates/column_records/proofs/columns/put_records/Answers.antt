-- `put_records`: a record more, and none. Assumes nothing.
use mathlib.Core.Path.{sym}
use native.Mathlib.Omega.{arith}
use Rattle.lent_text.proofs.Printed.{print_then, print_none, printed_as, printed_length}
use Rattle.column_calls.specs.Callers.{called_by}
use Rattle.column_records.proofs.RecordLaws.{observations_count, records_next, records_none}
use Rattle.column_records.proofs.columns.put_records.Goals as goal

pub loop-column-init : goal.loop-column-init
loop-column-init c =
    rw c.into_iter-column-iterator.ensures.into_iter_gives (record { can_next = tt; is_finite = tt; room = omega arith; place = c.requires; printed = λ q all. all })

pub loop-column-preserved : goal.loop-column-preserved
loop-column-preserved c =
    let step = rw c.in-Some.is at c.next.ensures.steps in
    let l = c.loop-column.invariant in
    record {
      can_next = tt;
      is_finite = tt;
      room = omega (arith, l.room, printed_length c.put_record.ensures);
      place = omega (arith, c.put_record.ensures.place);
      printed = λ q left. l.printed q (printed_as (print_then c.put_record.ensures left)
          (rw (c.call.ensures, observations_count c.in-Some.column.now) (sym (records_next (called_by c.args.caller.now) _ _ _ step))));
    }

pub returns : goal.returns
returns c =
    let step = rw c.in-None.is at c.next.ensures.steps in
    let l = c.loop-column.invariant in
    l.printed c.loop-column.p (printed_as (print_none c.loop-column.p l.room l.place) (sym (records_none _ _ step.0)))
