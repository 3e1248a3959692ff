-- `add_run`: what the items that are left add to the sum so far is the sum of all. Assumes nothing.
use Rattle.std.proofs.Common.{◌≡◌, ◌+◌, ◌%◌, ◌^◌}
use Rattle.export_scripts.specs.Script.{items}
use Rattle.export_timing.specs.Times.{amounts}
use Rattle.export_timing.proofs.scripts.add_run.Given as goal

abbrev pub invariant-loop-item : goal.invariant-loop-item
invariant-loop-item l =
    let left = l.item-iterator in
    record {
      can_next : (goal.iterator-loop-item).can_next left;
      is_finite : (goal.iterator-loop-item).is_finite left;
      added : (l.total + amounts l.adjusted l.gaps (items left.0.now) l.builder) % 2 ^ 64 ≡ (l.fn.sum + amounts l.adjusted l.gaps (items l.script) l.fn.start) % 2 ^ 64;
    }
