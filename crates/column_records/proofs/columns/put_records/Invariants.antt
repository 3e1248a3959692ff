-- `put_records`: where the records of the columns that are left are put next, all are put. Assumes nothing.
use Prim.Native.Nat.{◌≤◌}
use lib.ListN.{length}
use Rattle.lent_text.specs.declared.Printer.{Printer}
use Rattle.lent_text.specs.Printed.{Printed, last_place}
use Rattle.column_file.specs.Places.{columns_at}
use Rattle.column_calls.specs.Callers.{called_by}
use Rattle.column_records.specs.Records.{records_with}
use Rattle.column_records.proofs.columns.put_records.Given as goal

abbrev pub invariant-loop-column : goal.invariant-loop-column
invariant-loop-column l =
    let it = l.column-iterator in
    let called = called_by l.caller in
    let left = columns_at it.file.now it.at it.left in
    let all = columns_at l.columns.file.now l.columns.at l.columns.left in
    record {
      can_next : (goal.iterator-loop-column).can_next it;
      is_finite : (goal.iterator-loop-column).is_finite it;
      room : length l.p.out.now ≤ last_place;
      place : l.p.at ≤ last_place;
      printed : (q : Printer) → Printed l.p q (records_with called left) → Printed l.initial.p q (records_with called all);
    }
