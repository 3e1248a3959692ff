-- `put_reports`: where the reports of the items that are left are printed next, all are printed. Assumes nothing.
use Rattle.std.proofs.Common.{◌≤◌, length}
use Rattle.lent_text.specs.declared.Printer.{Printer}
use Rattle.lent_text.specs.Printed.{Printed, last_place}
use Rattle.export_scripts.specs.Script.{items}
use Rattle.export_reports.specs.Runs.{reports}
use Rattle.export_reports.proofs.runs.put_reports.Given as goal

abbrev pub invariant-loop-item : goal.invariant-loop-item
invariant-loop-item g l =
    let left = l.item-iterator in
    record {
      can_next : (goal.iterator-loop-item g).can_next left;
      is_finite : (goal.iterator-loop-item g).is_finite left;
      room : length l.p.out.now ≤ last_place;
      place : l.p.at ≤ last_place;
      printed : (q : Printer) → Printed l.p q (reports l.adjusted l.gaps (items left.0.now) l.progress) → Printed l.initial.p q (reports l.adjusted l.gaps (items l.script) l.fn.start);
    }
