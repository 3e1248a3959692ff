-- What a quality is added as, by whether it is 255. Assumes nothing.
use mathlib.Core.Path.{◌≡◌, sym}
use Prim.Native.Nat.{ℕ}
use borrow.Author.Tests.{eqb-true, ne_eqb}
use lib.Dec.{eqb}
use Rattle.words.proofs.Cases.{test}
use Rattle.std.specs.Prelude.{Option, None}
use Rattle.phred.specs.declared.PhredScore.{PhredScore}
use Rattle.stand_in.specs.StandIns.{absent_quality, absent_as, quality_as}

-- without a stand-in every quality is itself
pub as_it_is : (q : ℕ) → quality_as None q ≡ q
unfolding quality_as
as_it_is q = test (eqb q absent_quality) (λ e. rw e (sym (eqb-true q absent_quality e))) (λ e. rw e)

-- with any, each but 255
pub other_quality : (x : Option PhredScore) (q : ℕ) → (q ≡ absent_quality → ⊥) → quality_as x q ≡ q
unfolding quality_as
other_quality x q h = rw (ne_eqb q absent_quality h)

-- replaced once, a quality is added as it is
pub once : (x : Option PhredScore) (q : ℕ) → quality_as x (quality_as x q) ≡ quality_as x q
unfolding quality_as
once x q =
    test (eqb q absent_quality)
    (λ e. rw e (test (eqb (absent_as x) absent_quality) (λ f. rw f) (λ f. rw f)))
    (λ e. rw (e, e))
