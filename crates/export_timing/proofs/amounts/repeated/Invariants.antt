-- `repeated`: the sum after as many rounds. Assumes nothing.
use Rattle.std.proofs.Common.{◌≡◌, ℕ, ◌+◌, ◌*◌, ◌%◌, ◌^◌}
use Rattle.export_timing.proofs.amounts.repeated.Given as goal

abbrev pub invariant-loop-done : goal.invariant-loop-done
invariant-loop-done g l = (more : ℕ) → ((sum after : ℕ) → goal.F-post g l.round sum after → after ≡ (sum + more) % 2 ^ 64) → l.sum ≡ l.done * more % 2 ^ 64
