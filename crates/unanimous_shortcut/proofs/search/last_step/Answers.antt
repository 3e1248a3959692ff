-- `last_step`: at 94 the step that is not made and the one from the last place lead to the same. Assumes nothing.
use mathlib.Core.Path.{◌≡◌}
use mathlib.Core.List.{List}
use Prim.Native.Nat.{ℕ, ◌+◌, ◌-◌, ◌≤◌, min}
use native.Mathlib.Omega.{arith}
use lib.Dec.{ltb}
use lib.Ieee.{Float, le}
use borrow.Author.Tests.{ltb-true, ltb-false, le-leb}
use Rattle.std.specs.Prelude.{if◌then◌else◌}
use Rattle.words.proofs.Cases.{test}
use Rattle.unanimous_shortcut.specs.Search.{entry, advanced}
use Rattle.unanimous_shortcut.proofs.search.last_step.Goals as goal

-- what the definition does, by the place that is read
step : (t : List Float) (gap : Float) (p : ℕ) → p ≤ 94 → advanced t gap p 1 ≡ (if le (entry t (min p 93)) gap then min p 93 + 1 else p)
unfolding advanced
step t gap p h =
    test (ltb p 94)
    (λ l.
    let b = ltb-true p 94 l in
    let m : min p 93 ≡ p = omega arith in
    let n : p + 1 - 1 ≡ p = omega arith in
    rw (le-leb (p + 1) 94 (omega arith), m, n))
    (λ l.
    let e : p ≡ 94 = omega (arith, ltb-false p 94 l) in
    rw e (test (le (entry t 93) gap) (λ k. rw k) (λ k. rw k)))

pub returns-then-thresholds-i-clause-step : goal.returns-then-thresholds-i-clause-step
returns-then-thresholds-i-clause-step c = rw (step _ _ _ c.requires, ← c.min-i.ensures, c.if-thresholds-i.true)

pub returns-else-thresholds-i-clause-step : goal.returns-else-thresholds-i-clause-step
returns-else-thresholds-i-clause-step c = rw (step _ _ _ c.requires, ← c.min-i.ensures, c.if-thresholds-i.false)
