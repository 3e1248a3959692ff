-- `put`: where the lines of the columns that are left are printed next, all are printed. Assumes nothing.
use Prim.Native.Nat.{◌≤◌}
use lib.ListN.{length}
use Rattle.lent_text.specs.declared.Printer.{Printer}
use Rattle.lent_text.specs.Printed.{Printed, last_place}
use Rattle.column_file.specs.Places.{columns_at}
use Rattle.column_errors.specs.Tables.{sum_lines_with}
use Rattle.column_errors.proofs.sums.SumsText.put.Given as goal

abbrev pub invariant-loop-column : goal.invariant-loop-column
invariant-loop-column l =
    let it = l.column-iterator in
    let columns = l.self.columns in
    let left = columns_at it.file.now it.at it.left in
    let all = columns_at columns.file.now columns.at columns.left in
    record {
      can_next : (goal.iterator-loop-column).can_next it;
      is_finite : (goal.iterator-loop-column).is_finite it;
      room : length l.p.out.now ≤ last_place;
      place : l.p.at ≤ last_place;
      printed : (q : Printer) → Printed l.p q (sum_lines_with l.self.errors.now left) → Printed l.initial.p q (sum_lines_with l.self.errors.now all);
    }
