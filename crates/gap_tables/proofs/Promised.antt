-- What demand 3 promises of the thresholds holds for every quality formula. Assumes nothing.
use mathlib.Core.Path.{◌≡◌, refl, ap}
use mathlib.Core.Bool.{Bool, true, false, not}
use mathlib.Core.Logic.{◌⊎◌, inl, inr, ⊎_elim, ◌↔◌}
use Prim.Native.Nat.{ℕ, zero, suc, ◌*◌, ◌≤◌}
use native.Mathlib.Nat.{le_trans}
use native.Mathlib.Omega.{arith}
use lib.Dec.{T, eqb, eqb→eq}
use lib.IntN.{pos}
use lib.Ieee.{Float, fin, binary64, up, down, div, lt, eq, le, fits, is_nan, of_bits}
use lib.Ieee.Fits.{and_l}
use lib.Ieee.Back.{whole_unique}
use lib.Ieee.Bits.{is_true, is_false}
use lib.Ieee.Scale.{finite}
use borrow.Author.Tests.{leb-true, le-leb, le-ltb}
use Rattle.float.specs.Ops.{plus_infinity}
use Rattle.words.proofs.Cases.{clash, choice}
use Rattle.float.proofs.Order.{le_self, le_le, not_lt_le}
use Rattle.gap_tables.specs.declared.thresholds.Ends.{Ends}
use Rattle.gap_tables.specs.Thresholds.{gap0, gap256, reaches, middle, halved, halvings, threshold_with, threshold, Thresholds}
use Rattle.gap_tables.proofs.Middle.{Plus, plus, plus_256, Between, middle_between}

-- ---- a finite value with the sign + beside itself, 0 and infinity
plus_0 : Plus gap0
unfolding of_bits fits
plus_0 = plus 0 (pos 0) tt

plus_self : {x : Float} → Plus x → le x x ≡ true
unfolding is_nan
plus_self (plus m e f) = le_self (fin false m e)

plus_from_0 : {x : Float} → Plus x → le gap0 x ≡ true
unfolding lt is_nan of_bits
plus_from_0 (plus m e f) = not_lt_le (fin false m e) gap0 refl refl (le-ltb (m * up e * 1) (0 * 1 * down e) (omega arith))

-- the one that is equal to 0
plus_is_0 : {x : Float} → Plus x → T (eq x gap0) → x ≡ gap0
unfolding eq of_bits fits
plus_is_0 (plus m e f) h =
    whole_unique binary64 (fin false m e) gap0 false 0 f tt (refl, eqb→eq (m * up e * 1) (0 * down e) (and_l (eqb (m * up e * 1) (0 * down e)) true h)) (refl, refl)

plus_to_infinity : {x : Float} → Plus x → le x plus_infinity ≡ true
unfolding le div of_bits
plus_to_infinity (plus m e f) = refl

plus_finite : {x : Float} → Plus x → finite x ≡ true
plus_finite (plus m e f) = refl

-- ---- the ends of a halving
-- they are gaps from 0 to 256, in order
record Gaps (e : Ends) : Type 0 where
  plus_low : Plus e.low
  plus_high : Plus e.high
  order : le e.low e.high ≡ true
  most : le e.high gap256 ≡ true

-- the next ends are gaps too, and lie within the last
record Within (e next : Ends) : Type 0 where
  gaps : Gaps next
  rises : le e.low next.low ≡ true
  falls : le next.high e.high ≡ true

gaps_middle : {e : Ends} → Gaps e → Between e.low e.high (middle e)
gaps_middle {e} g = middle_between e g.plus_low g.plus_high g.order g.most

halved_within : (ok : Float → Bool) (e : Ends) → Gaps e → Within e (halved ok e)
unfolding halved
halved_within ok e g =
    let m = gaps_middle g in
    choice (Within e) (ok (middle e)) _ _
    (λ t. record {
      gaps = record { plus_low = g.plus_low; plus_high = m.is_plus; order = m.above; most = le_le (middle e) e.high gap256 m.below g.most };
      rises = plus_self g.plus_low;
      falls = m.below;
    })
    (λ t. record {
      gaps = record { plus_low = m.is_plus; plus_high = g.plus_high; order = m.below; most = g.most };
      rises = m.above;
      falls = plus_self g.plus_high;
    })

-- n halvings by one test: the upper end passes it
module _ (ok : Float → Bool) where
  halvings_gaps : (n : ℕ) → Gaps (halvings ok n)
  unfolding halvings
  halvings_gaps zero = record { plus_low = plus_0; plus_high = plus_256; order = plus_from_0 plus_256; most = plus_self plus_256 }
  halvings_gaps (suc n) = (halved_within ok (halvings ok n) (halvings_gaps n)).gaps

  halvings_pass : ok gap256 ≡ true → (n : ℕ) → ok (halvings ok n).high ≡ true
  unfolding halvings halved
  halvings_pass h zero = h
  halvings_pass h (suc n) = choice (λ (e : Ends). ok e.high ≡ true) (ok (middle (halvings ok n))) _ _ (λ t. t) (λ t. halvings_pass h n)

-- n halvings by two tests, the second asking more: they go the same way until they part, and from then on the first stays below the second
abbrev Ordered : Ends → Ends → Type 0
Ordered e f = (e ≡ f) ⊎ (le e.high f.low ≡ true)

module _ (ok more : Float → Bool) (asks : (x : Float) → more x ≡ true → ok x ≡ true) where
  halved_ordered : (e : Ends) → Gaps e → Ordered (halved ok e) (halved more e)
  unfolding halved
  halved_ordered e g =
      choice (λ d. Ordered d (halved more e)) (ok (middle e)) _ _
      (λ a. choice (Ordered _) (more (middle e)) _ _ (λ b. inl refl) (λ b. inr (plus_self (gaps_middle g).is_plus)))
      (λ a. choice (Ordered _) (more (middle e)) _ _ (λ b. clash a (asks (middle e) b)) (λ b. inl refl))

  halvings_ordered : (n : ℕ) → Ordered (halvings ok n) (halvings more n)
  unfolding halvings
  halvings_ordered zero = inl refl
  halvings_ordered (suc n) =
      let e = halvings ok n in
      let f = halvings more n in
      let falls = (halved_within ok e (halvings_gaps ok n)).falls in
      let rises = (halved_within more f (halvings_gaps more n)).rises in
      ⊎_elim (λ s. rw (← s) (halved_ordered e (halvings_gaps ok n))) (λ a. inr (le_le _ e.high _ falls (le_le e.high f.low _ a rises))) (halvings_ordered n)

  halvings_rise : (n : ℕ) → le (halvings ok n).high (halvings more n).high ≡ true
  halvings_rise n =
      ⊎_elim (λ s. rw (← s) (plus_self (halvings_gaps ok n).plus_high)) (λ a. le_le _ (halvings more n).low _ a (halvings_gaps more n).order) (halvings_ordered n)

-- ---- the thresholds
module _ (quality : Float → ℕ) where
  -- the upper end after 64 halvings
  abbrev upper : ℕ → Float
  upper q = (halvings (reaches quality q) 64).high

  upper_plus : (q : ℕ) → Plus (upper q)
  upper_plus q = (halvings_gaps (reaches quality q) 64).plus_high

  -- what holds of 0, of that end and of infinity, each in its case, holds of the threshold
  cases : (P : Float → Type 0) (q : ℕ) → (reaches quality q gap0 ≡ true → P gap0) → (reaches quality q gap0 ≡ false → reaches quality q gap256 ≡ true → P (upper q))
      → (reaches quality q gap0 ≡ false → reaches quality q gap256 ≡ false → P plus_infinity) → P (threshold quality q)
  unfolding threshold_with
  cases P q h k l = choice P (reaches quality q gap0) _ _ h (λ a. choice P (reaches quality q gap256) _ _ (k a) (l a))

  -- what reaches a level reaches those below it
  reaches_lower : (q r : ℕ) → q ≤ r → (x : Float) → reaches quality r x ≡ true → reaches quality q x ≡ true
  reaches_lower q r h x t = le-leb q (quality x) (le_trans h (leb-true r (quality x) t))

  thresholds_rise : (q r : ℕ) → q ≤ r → le (threshold quality q) (threshold quality r) ≡ true
  unfolding le div of_bits
  thresholds_rise q r h =
      let low = reaches_lower q r h in
      cases (λ x. le x (threshold quality r) ≡ true) q
      (λ a. cases (λ y. le gap0 y ≡ true) r (λ c. refl) (λ c d. plus_from_0 (upper_plus r)) (λ c d. refl))
      (λ a b. cases (λ y. le (upper q) y ≡ true) r (λ c. clash a (low gap0 c)) (λ c d. halvings_rise (reaches quality q) (reaches quality r) low 64) (λ c d. plus_to_infinity (upper_plus q)))
      (λ a b. cases (λ y. le plus_infinity y ≡ true) r (λ c. clash a (low gap0 c)) (λ c d. clash b (low gap256 d)) (λ c d. refl))

pub thresholds_promised : (quality : Float → ℕ) → Thresholds quality
unfolding eq div of_bits
thresholds_promised quality = record {
  rise = λ q r h. rw (thresholds_rise quality q r h) tt;
  reached = λ q. cases quality (λ x. T (finite x) → T (reaches quality q x)) q (λ a f. rw a tt) (λ a b f. rw (halvings_pass (reaches quality q) b 64) tt) (λ a b f. absurd f);
  is-0 = λ q.
      cases quality (λ x. T (eq x gap0) ↔ T (reaches quality q gap0)) q
      (λ a. (λ e. rw a tt, λ t. tt))
      (λ a b. (λ e. clash a (rw (plus_is_0 (upper_plus quality q) e) at (halvings_pass (reaches quality q) b 64)), λ t. clash a (is_true _ t)))
      (λ a b. (absurd, λ t. clash a (is_true _ t)));
  is_infinite = λ q.
      cases quality (λ x. (x ≡ plus_infinity) ↔ (T (not (reaches quality q gap0)) × T (not (reaches quality q gap256)))) q
      (λ a. (λ e. clash (ap finite e) refl, λ t. clash (is_false _ t.0) a))
      (λ a b. (λ e. clash (ap finite e) (plus_finite (upper_plus quality q)), λ t. clash (is_false _ t.1) b))
      (λ a b. (λ e. (rw a tt, rw b tt), λ t. refl));
  else_finite = λ q.
      cases quality (λ x. T (not (finite x)) → x ≡ plus_infinity) q
      (λ a f. absurd f) (λ a b f. clash (is_false _ f) (plus_finite (upper_plus quality q))) (λ a b f. refl);
}
