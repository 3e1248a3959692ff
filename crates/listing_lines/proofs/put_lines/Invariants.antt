-- `put_lines`: where the lines of the columns that are left are printed next, all are printed. Assumes nothing.
use Prim.Native.Nat.{◌+◌, ◌≤◌}
use lib.ListN.{length}
use Rattle.lent_text.specs.declared.Printer.{Printer}
use Rattle.lent_text.specs.Printed.{Printed, last_place}
use Rattle.column_file.specs.Places.{columns_at}
use Rattle.column_calls.specs.Callers.{called_by}
use Rattle.listing_lines.specs.Lines.{text_of}
use Rattle.listing_lines.specs.Tables.{lines_with}
use Rattle.listing_lines.proofs.put_lines.Given as goal

abbrev pub invariant-loop-before : goal.invariant-loop-before
invariant-loop-before l =
    let it = l.before-iterator in
    let called = called_by l.caller in
    let left = columns_at it.iter.file.now it.iter.at it.iter.left in
    let all = columns_at l.columns.file.now l.columns.at l.columns.left in
    record {
      can_next : (goal.iterator-loop-before).can_next it;
      is_finite : (goal.iterator-loop-before).is_finite it;
      few : it.count + length left ≤ l.columns.left;
      room : length l.p.out.now ≤ last_place;
      place : l.p.at ≤ last_place;
      printed : (q : Printer) → Printed l.p q (text_of (lines_with called (it.count + 1) left)) → Printed l.initial.p q (text_of (lines_with called 1 all));
    }
