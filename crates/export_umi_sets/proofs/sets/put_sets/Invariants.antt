-- `put_sets`: what is printed, and what the sets that are left are answered, are all answers. Assumes nothing.
use Rattle.std.proofs.Common.{◌≡◌, ℕ, ◌≤◌, List, length}
use Rattle.lent_text.specs.Printed.{Printed}
use Rattle.string_set.proofs.Readers.{prepend}
use Rattle.export_umi_sets.specs.Reading.{sets_within, sets_in}
use Rattle.export_umi_sets.proofs.Walk.{answered}
use Rattle.export_umi_sets.proofs.sets.put_sets.Given as goal

abbrev pub invariant-loop-rest : goal.invariant-loop-rest
invariant-loop-rest l =
    record {
      done : List ℕ;
      most : ℕ;
      few : length l.rest ≤ most;
      printed : Printed l.initial.p l.p done;
      left : prepend done (answered l.question l.current (sets_within most l.rest)) ≡ answered l.question l.fn.caller (sets_in l.sets);
    }

abbrev pub decreases-loop-rest : goal.decreases-loop-rest
decreases-loop-rest l = length l.rest
