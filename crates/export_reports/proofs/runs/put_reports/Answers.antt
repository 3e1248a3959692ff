-- `put_reports`: a question, an event, and none. Assumes nothing.
use Rattle.std.proofs.Common.{sym, arith}
use Rattle.lent_text.proofs.Printed.{print_then, print_none, printed_as, printed_length}
use Rattle.export_reports.proofs.Written.{question_next, event_next, reports_none}
use Rattle.export_reports.proofs.runs.put_reports.Goals as goal

pub loop-item-init : goal.loop-item-init
loop-item-init g c =
    rw c.into_iter-item-iterator.ensures.into_iter_gives
    (record { can_next = tt; is_finite = tt; room = omega arith; place = omega (arith, c.requires); printed = λ q all. all })

pub loop-item-preserved-in-Question : goal.loop-item-preserved-in-Question
loop-item-preserved-in-Question g c =
    let step = rw c.in-Some.is at c.next.ensures.steps in
    let l = c.loop-item.invariant in
    let next = question_next c.args.adjusted.now c.args.gaps.now c.loop-item.progress (rw c.in-Question.is at step) in
    record {
      can_next = tt;
      is_finite = tt;
      room = omega (arith, l.room, printed_length c.put_report.ensures);
      place = omega (arith, c.put_report.ensures.place);
      printed = λ q left. l.printed q (printed_as (print_then c.put_report.ensures left) (sym next));
    }

pub loop-item-preserved : goal.loop-item-preserved
loop-item-preserved g c =
    let step = rw c.in-Some.is at c.next.ensures.steps in
    let l = c.loop-item.invariant in
    let next = event_next c.args.adjusted.now c.args.gaps.now c.loop-item.progress c.in_default.not-Question step in
    record {
      can_next = tt;
      is_finite = tt;
      room = l.room;
      place = l.place;
      printed = λ q left. l.printed q (printed_as (rw c.pass-progress.ensures at left) (sym next));
    }

pub returns : goal.returns
returns g c =
    let step = rw c.in-None.is at c.next.ensures.steps in
    let l = c.loop-item.invariant in
    l.printed c.loop-item.p (printed_as (print_none c.loop-item.p l.room l.place) (sym (reports_none _ _ _ step.0)))
