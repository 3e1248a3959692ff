-- A value more than 2^-52 above another does not tie with it as FgbioCompat tests them, whichever comes first. Assumes nothing.
use mathlib.Core.Path.{◌≡◌, sym, subst}
use mathlib.Core.Bool.{true, false}
use mathlib.Core.List.{List}
use Prim.Native.Nat.{ℕ, ◌+◌, ◌%◌, ◌<◌}
use native.Mathlib.Omega.{arith}
use lib.Dec.{eqb, ltb}
use lib.Ieee.{Float, lt}
use borrow.Author.Tests.{eqb-true, eqb-false}
use Rattle.float.specs.Ops.{◌⊖◌, epsilon}
use Rattle.words.proofs.Cases.{test}
use Rattle.float.proofs.Order.{lt_asym, lt_not_le}
use Rattle.float.proofs.Turned.{turned}
use Rattle.float.proofs.Gap.{gap_lt}
use Rattle.tie_rules.specs.declared.tie_rule.TieRule.TheVariants.{FgbioCompat}
use Rattle.tie_rules.specs.Lanes.{lane}
use Rattle.tie_rules.specs.Ties.{fgbio_tie, fgbio_tested, ties_with, untied}
use Rattle.tie_rules.proofs.Lanes.{below_all}

clear_apart : (i j : ℕ) (m x : Float) → lt epsilon (m ⊖ x) ≡ true → ties_with FgbioCompat i m j x ≡ false
unfolding ties_with fgbio_tested fgbio_tie
clear_apart i j m x h =
    let l = gap_lt m x h in
    let k = lt_asym x m l in
    test (ltb i j) (λ t. rw (t, k, turned x m epsilon k, lt_not_le epsilon (m ⊖ x) h)) (λ t. rw (t, l))

module _ (xs : List Float) (i : ℕ) (m : Float) (inside : i < 4) where
  abbrev Clear : ℕ → Type 0
  Clear j = lt epsilon (m ⊖ lane xs j) ≡ true

  -- a lane but i is one of the three that follow it round
  clear_of : Clear ((i + 1) % 4) → Clear ((i + 2) % 4) → Clear ((i + 3) % 4) → (j : ℕ) → j < 4 → eqb i j ≡ false → Clear j
  clear_of a b c j h d =
      test (eqb j ((i + 1) % 4)) (λ t. from (eqb-true _ _ t) a)
      (λ p. test (eqb j ((i + 2) % 4)) (λ t. from (eqb-true _ _ t) b)
      (λ q. test (eqb j ((i + 3) % 4)) (λ t. from (eqb-true _ _ t) c)
      (λ r. absurd (omega (arith, eqb-false i j d, eqb-false j ((i + 1) % 4) p, eqb-false j ((i + 2) % 4) q, eqb-false j ((i + 3) % 4) r)))))
    where
      from : {k : ℕ} → j ≡ k → Clear k → Clear j
      from e l = subst Clear (sym e) l

  pub all_clear : Clear ((i + 1) % 4) → Clear ((i + 2) % 4) → Clear ((i + 3) % 4) → untied FgbioCompat xs i m ≡ true
  unfolding untied
  all_clear a b c =
      below_all 4 _ (λ (j : ℕ) (h : j < 4). test (eqb i j) (λ t. rw t) (λ d. rw (d, clear_apart i j m (lane xs j) (clear_of a b c j h d))))
