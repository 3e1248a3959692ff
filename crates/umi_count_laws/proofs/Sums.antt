-- Each lane's sum after a column, to within five steps for each byte: the counts say how far the lane has fallen. Assumes nothing.
use mathlib.Core.Path.{◌≡◌, refl, sym, ap, ◌∙◌, subst}
use mathlib.Core.List.{List, [], ◌∷◌}
use Prim.Native.Nat.{ℕ, ◌+◌, ◌-◌, ◌*◌, ◌≤◌, ◌<◌}
use native.Mathlib.Omega.{arith}
use lib.Dec.{eqb}
use lib.ListN.{length, get_or}
use lib.Ieee.{Float, nan, of_bits}
use borrow.Author.Tests.{eqb-true, eqb-false, eq-eqb, ne_eqb}
use Rattle.float.specs.Ops.{plus_zero}
use Rattle.std.specs.Prelude.{if◌then◌else◌}
use Rattle.words.proofs.Cases.{test}
use Rattle.tie_rules.specs.Lanes.{lanes, no_lane, lane_of_byte, is_base}
use Rattle.tie_rules.proofs.Lanes.{four, lanes_at, in_lane}
use Rattle.lane_sums.specs.declared.observation.Sum.{Sum}
use Rattle.lane_sums.specs.Observation.{moved_by, sum_at, value_of}
use Rattle.lane_sums.specs.declared.observation.LaneSums.{LaneSums}
use Rattle.observation_windows.specs.Windows.{window_of}
use Rattle.observation_windows.proofs.Laws.{window_at_lem}
use Rattle.umi_column.specs.Sums.{no_sums, summed_by, summed_all}
use Rattle.umi_count_laws.specs.Counts.{times_observed}
use Rattle.umi_count_laws.proofs.Places.{Fine, At, over, unit, base}
use Rattle.umi_count_laws.proofs.KahanStep.{Stands, kept, stepped}

-- ---- what a column takes off a lane, where a base of its own takes off p and any other q
module _ (p q : ℕ) where
  -- one byte
  unfoldable pub lowers : ℕ → ℕ → ℕ
  lowers i x =
      if is_base x then (if eqb (lane_of_byte x) i then p else q)
      else 0

  -- a column
  unfoldable pub fall : ℕ → List ℕ → ℕ
  fall i [] = 0
  fall i (x ∷ xs) = lowers i x + fall i xs

  -- of a lane that was never observed
  unfoldable whole : List ℕ → ℕ
  whole [] = 0
  whole (x ∷ xs) = (if is_base x then q else 0) + whole xs

  module _ (d : ℕ) (apart : p + d ≡ q) where
    -- a lane falls the less the more often it was observed
    fall_whole : (i : ℕ) → i < 4 → (column : List ℕ) → fall i column + times_observed i column * d ≡ whole column
    unfolding fall lowers whole times_observed
    fall_whole i h [] = omega arith
    fall_whole i h (x ∷ xs) =
        let k = lane_of_byte x in
        let more = fall_whole i h xs in
        test (eqb k no_lane)
        (λ t. let n = eqb-true k no_lane t in rw (t, ne_eqb k i (λ (e : k ≡ i). omega arith)) (omega arith))
        (λ t. test (eqb k i) (λ u. rw (t, u) (omega arith)) (λ u. rw (t, u) (omega arith)))

    lowers_most : (i x : ℕ) → lowers i x ≤ q
    unfolding lowers
    lowers_most i x =
        test (eqb (lane_of_byte x) no_lane)
        (λ t. rw t (omega arith))
        (λ t. test (eqb (lane_of_byte x) i) (λ u. rw (t, u) (omega arith)) (λ u. rw (t, u) (omega arith)))

    -- no more than q for each byte
    pub fall_most : (i : ℕ) (column : List ℕ) → fall i column ≤ length column * q
    unfolding fall
    fall_most i [] = omega arith
    fall_most i (x ∷ xs) = omega (arith, lowers_most i x, fall_most i xs)

-- the lanes i and j
pub falls : (p q d : ℕ) → p + d ≡ q → (i j : ℕ) → i < 4 → j < 4 → (column : List ℕ)
    → fall p q i column + times_observed i column * d ≡ fall p q j column + times_observed j column * d
falls p q d apart i j h k column = fall_whole p q d apart i h column ∙ sym (fall_whole p q d apart j k column)

-- ---- the window
module _ (correct error : Float) where
  -- what lane i is moved by where lane k was observed
  abbrev value : ℕ → ℕ → Float
  value k i =
      if eqb k i then correct
      else error

  window_lane : (k i : ℕ) → k < 4 → i < 4 → get_or (window_of correct error) (3 - k + i) nan ≡ value k i
  unfolding value_of
  window_lane k i h l =
      window_at_lem correct error k i h l
      ∙ test (eqb k i) (λ t. rw (t, eq-eqb i k (sym (eqb-true k i t)))) (λ t. rw (t, ne_eqb i k (λ e. eqb-false k i t (sym e))))

  -- lane i of what is moved
  moved_lane : (k i : ℕ) → k < 4 → i < 4 → (s : LaneSums) → (f : Sum → Float)
      → get_or (lanes (λ j. f (moved_by (get_or (window_of correct error) (3 - k + j) nan) (sum_at s j)))) i nan ≡ f (moved_by (value k i) (sum_at s i))
  moved_lane k i h l s f = lanes_at (λ j. f (moved_by (get_or (window_of correct error) (3 - k + j) nan) (sum_at s j))) nan i l ∙ ap (λ (v : Float). f (moved_by v (sum_at s i))) (window_lane k i h l)

-- ---- the column
-- what stands, said of equal numbers
same : {e f f' n n' : ℕ} {s s' : Sum} → s ≡ s' → f ≡ f' → n ≡ n' → Stands e s f n → Stands e s' f' n'
same {e} {f} {f'} {n} {n'} {s} {s'} p q r h =
    subst (λ (z : Sum). Stands e z f' n') p (subst (λ (z : ℕ). Stands e s z n') q (subst (λ (z : ℕ). Stands e s f z) r h))

-- before the first byte
start : (e i : ℕ) → i < 4 → Stands e (sum_at no_sums i) 0 0
unfolding no_sums of_bits
start e i h = same {s = record { lane = plus_zero; compensation = plus_zero }} (four (λ (i : ℕ). record { lane = plus_zero; compensation = plus_zero } ≡ sum_at no_sums i) refl refl refl refl i h) refl refl record {
  place = base e;
  lane_at = over 0 (refl, omega arith) (omega arith);
  lane_near = omega arith;
  error = base e;
  compensation_at = over 0 (refl, omega arith) (omega arith);
  error_small = omega arith;
}

module _ (e : ℕ) (fine : Fine e) (correct error : Float) (u w p q : ℕ) (correct_at_lem : At e correct u) (error_at : At e error w) (correct_is : u + p ≡ base e) (error_is : w + q ≡ base e) (order : p ≤ q) (most : q ≤ 32 * unit e) (i : ℕ) (inside : i < 4) where
  -- one byte
  byte : (x : ℕ) (s : LaneSums) (f n : ℕ) → Stands e (sum_at s i) f n → f + lowers p q i x ≤ 8160 * unit e → n < 255
      → Stands e (sum_at (summed_by (window_of correct error) x s) i) (f + lowers p q i x) (n + 1)
  unfolding summed_by lowers
  byte x s f n h room few =
      let k = lane_of_byte x in
      test (eqb k no_lane)
      (λ t. rw t (same refl (omega arith) refl (kept h)))
      (λ t.
      let K = in_lane x t in
      rw (t, moved_lane correct error k i K inside s (λ m. m.lane), moved_lane correct error k i K inside s (λ m. m.compensation))
      (test (eqb k i)
      (λ o. rw o (stepped fine h correct_at_lem correct_is (omega (arith, order)) (rw (t, o) at room) few))
      (λ o. rw o (stepped fine h error_at error_is most (rw (t, o) at room) few))))

  -- a column
  walk : (column : List ℕ) (s : LaneSums) (f n : ℕ) → Stands e (sum_at s i) f n → f + fall p q i column ≤ 8160 * unit e → n + length column ≤ 255
      → Stands e (sum_at (summed_all (window_of correct error) column s) i) (f + fall p q i column) (n + length column)
  unfolding summed_all fall
  walk [] s f n h room few = same refl (omega arith) (omega arith) h
  walk (x ∷ xs) s f n h room few =
      same refl (omega arith) (omega arith)
      (walk xs (summed_by (window_of correct error) x s) (f + lowers p q i x) (n + 1) (byte x s f n h (omega arith) (omega arith)) (omega arith) (omega arith))

  -- from the first byte on
  pub summed : (column : List ℕ) → fall p q i column ≤ 8160 * unit e → length column ≤ 255
      → Stands e (sum_at (summed_all (window_of correct error) column no_sums) i) (fall p q i column) (length column)
  summed column room few = same refl (omega arith) (omega arith) (walk column no_sums 0 0 (start e i inside) (omega arith) (omega arith))
