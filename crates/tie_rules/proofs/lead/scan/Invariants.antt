-- `scan`: after k turns it is the scan of the first k lanes, by any step that says what each call gives. Assumes nothing.
use Rattle.std.proofs.Common.{◌≡◌, ℕ}
use Rattle.std.specs.Prelude.{Float}
use Rattle.tie_rules.specs.Scan.{scan}
use Rattle.tie_rules.proofs.lead.scan.Given as goal

abbrev pub invariant-loop-k : goal.invariant-loop-k
invariant-loop-k g l =
    goal.F-IsAlwaysCallable g l.step
    × ((f : _ → ℕ → Float → _) → ((s : _) (k : ℕ) (x : Float) (t : _) → goal.F-post g l.fn.step s k x t → t ≡ f s k x) → l.run ≡ scan f l.fn.start l.fn.likelihoods l.k)
