-- `put_lines`: a line more, and none. Assumes nothing.
use Rattle.std.proofs.Common.{inl}
use mathlib.Core.Path.{sym}
use Prim.Native.Nat.{◌+◌}
use native.Mathlib.Omega.{arith}
use Rattle.lent_text.proofs.Printed.{print_then, print_none, printed_as, printed_length}
use Rattle.column_file.proofs.ColumnParts.{columns_most}
use Rattle.column_calls.specs.Callers.{called_by}
use Rattle.listing_lines.proofs.Lines.{lines_next, lines_none}
use Rattle.listing_lines.proofs.put_lines.Goals as goal

pub loop-before-init : goal.loop-before-init
loop-before-init c =
    let all = c.args.columns in
    let most = columns_most all.file.now all.left all.at in
    rw (c.into_iter-before-iterator.ensures.into_iter_gives, c.enumerate-before-items.ensures.source, c.enumerate-before-items.ensures.count)
    (record {
      can_next = (tt, tt, inl (omega (arith, most, c.ranges.columns)));
      is_finite = tt;
      few = omega (arith, most);
      room = omega arith;
      place = omega arith;
      printed = λ q all. all;
    })

pub loop-before-preserved : goal.loop-before-preserved
loop-before-preserved c =
    let step = rw c.in-Some.is at c.next.ensures.steps in
    let l = c.loop-before.invariant in
    let few = rw step.0 at l.few in
    record {
      can_next = (tt, tt, inl (omega (arith, few, step.2, c.ranges.columns)));
      is_finite = tt;
      few = omega (arith, few, step.2);
      room = omega (arith, l.room, printed_length c.put_line.ensures);
      place = omega (arith, c.put_line.ensures.place);
      printed = λ q left. l.printed q (printed_as (print_then c.put_line.ensures left)
          (rw (c.call.ensures, step.1, step.2) (sym (lines_next (called_by c.args.caller.now) (c.loop-before.before-iterator.count + 1) _ _ _ step.0))));
    }

pub returns : goal.returns
returns c =
    let step = rw c.in-None.is at c.next.ensures.steps in
    c.loop-before.invariant.printed c.loop-before.p (printed_as (print_none c.loop-before.p c.loop-before.invariant.room c.loop-before.invariant.place) (sym (lines_none _ _ _ step.0.0)))
