-- `add_round`: what the columns that are left add to the sum so far is the sum of all. Assumes nothing.
use Rattle.std.proofs.Common.{◌≡◌, ◌+◌, ◌%◌, ◌^◌}
use Rattle.column_file.specs.Places.{columns_at}
use Rattle.column_calls.specs.Callers.{called_by}
use Rattle.export_timing.specs.Columns.{amounts_with}
use Rattle.export_timing.proofs.columns.add_round.Given as goal

abbrev pub invariant-loop-column : goal.invariant-loop-column
invariant-loop-column l =
    let left = l.column-iterator in
    let called = called_by l.caller in
    record {
      can_next : (goal.iterator-loop-column).can_next left;
      is_finite : (goal.iterator-loop-column).is_finite left;
      added : (l.total + amounts_with called (columns_at left.file.now left.at left.left)) % 2 ^ 64 ≡ (l.fn.sum + amounts_with called (columns_at l.columns.file.now l.columns.at l.columns.left)) % 2 ^ 64;
    }
