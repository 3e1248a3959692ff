-- The lane that a sum starts from is the one that SCOPE 2.3 names, which names no other, and one of the lanes. Assumes nothing.
use mathlib.Core.Path.{◌≡◌, refl, sym, ap, ◌∙◌, subst}
use mathlib.Core.Bool.{true, false, true≢false}
use mathlib.Core.Logic.{◌⊎◌, inl, inr, ⊎_elim}
use mathlib.Core.List.{List, [], ◌∷◌}
use Prim.Native.Nat.{ℕ, suc, ◌+◌, ◌<◌}
use native.Mathlib.Nat.{not-suc-le-zero, eq-or-lt_of_le, zero-add}
use native.Mathlib.Omega.{arith}
use lib.ListN.{length, get_or, get_or-eq_default}
use borrow.Author.Count.{below_more}
use lib.Ieee.{Float, nan, inf, fin, lt, eq, div, of_bits}
use Rattle.float.specs.Ops.{plus_infinity}
use Rattle.std.proofs.lemmas.Bool.{cases_lt}
use Rattle.words.proofs.Cases.{test, clash, refuted}
use Rattle.float.proofs.Constants.{minus_infinity}
use Rattle.float.proofs.Order.{nan_not_lt, lt_trans, lt_irrefl, lt_numbers, le_or, not_lt_le, eq_lt}
use Rattle.phred.specs.declared.Lowest.{Lowest}
use Rattle.phred.specs.Phred.{all_ln_zero, lower_of, lowest_from, start_lane}
use Rattle.phred.specs.Start.{Starts, OneStart}

-- what is below something is below +infinity
below_infinity : (x y : Float) → lt x y ≡ true → lt x plus_infinity ≡ true
unfolding lt div of_bits
below_infinity nan y h = h
below_infinity (inf true) y h = refl
below_infinity (inf false) nan h = h
below_infinity (inf false) (inf t) h = h
below_infinity (inf false) (fin t n d) h = h
below_infinity (fin s m e) y h = refl

-- two lanes below +infinity are equal where neither is below the other
neither_below : (x y : Float) → lt x plus_infinity ≡ true → lt y plus_infinity ≡ true → lt x y ≡ false → lt y x ≡ false → eq x y ≡ true
neither_below x y p q h k = ⊎_elim (λ t. clash h t) (λ t. t) (le_or x y (not_lt_le y x (lt_numbers y plus_infinity q).0 (lt_numbers x plus_infinity p).0 k))

-- a lane that is lower takes over, and else all stays
lower_takes : (l : Lowest) (i : ℕ) (x : Float) → lt x l.value ≡ true → lower_of l i x ≡ record { place = i; value = x }
unfolding lower_of
lower_takes l i x h = rw h

lower_stays : (l : Lowest) (i : ℕ) (x : Float) → lt x l.value ≡ false → lower_of l i x ≡ l
unfolding lower_of
lower_stays l i x h = rw h

-- the lanes are g 0, g 1 and so on
module _ (g : ℕ → Float) where
  -- l is one of the first i lanes, below +infinity, and the first of its value
  abbrev Found : Lowest → ℕ → Type 0
  Found l i = (l.place < i) × (l.value ≡ g l.place) × (lt l.value plus_infinity ≡ true) × ((j : ℕ) → j < l.place → eq (g j) l.value ≡ false)

  -- what is known of the lowest of the first i lanes
  record Seen (l : Lowest) (i : ℕ) : Type 0 where
    none : (j : ℕ) → j < i → lt (g j) l.value ≡ false
    found : ((l.value ≡ plus_infinity) × (l.place ≡ 0)) ⊎ Found l i

  take_over : (l : Lowest) (i : ℕ) → Seen l i → lt (g i) l.value ≡ true → Seen (record { place = i; value = g i }) (i + 1)
  take_over l i s h =
      record {
        none = below_more (λ j. lt (g j) (g i) ≡ false) i (λ j k. refuted (lt (g j) (g i)) (λ t. clash (s.none j k) (lt_trans (g j) (g i) l.value t h))) (lt_irrefl (g i));
        found = inr (omega arith, refl, below_infinity (g i) l.value h, λ j k. refuted (eq (g j) (g i)) (λ t. clash (s.none j k) (eq_lt (g j) (g i) l.value t h)));
      }

  stay : (l : Lowest) (i : ℕ) → Seen l i → lt (g i) l.value ≡ false → Seen l (i + 1)
  stay l i s h =
      record {
        none = below_more (λ j. lt (g j) l.value ≡ false) i s.none h;
        found = ⊎_elim (λ w. inl w) (λ w. inr (omega (arith, w.0), w.1, w.2, w.3)) s.found;
      }

  walk : (xs : List Float) (l : Lowest) (i : ℕ) → ((k : ℕ) → get_or xs k nan ≡ g (i + k)) → Seen l i → Seen (lowest_from l i xs) (i + length xs)
  unfolding lowest_from
  walk [] l i h s = let e : i ≡ i + 0 = omega arith in subst (λ (n : ℕ). Seen l n) e s
  walk (x ∷ xs) l i h s =
      let e : i + 1 + length xs ≡ i + suc (length xs) = omega arith in
      let e0 : i + 0 ≡ i = omega arith in
      let x-is : x ≡ g i = h 0 ∙ ap g e0 in
      let after : (k : ℕ) → get_or xs k nan ≡ g (i + 1 + k) = λ k. h (suc k) ∙ ap g (shift i k) in
      subst (λ (n : ℕ). Seen (lowest_from (lower_of l i x) (i + 1) xs) n) e
      (walk xs (lower_of l i x) (i + 1) after
      (test (lt x l.value)
      (λ t. rw (lower_takes l i x t, x-is) (take_over l i s (sym (ap (λ y. lt y l.value) x-is) ∙ t)))
      (λ t. rw (lower_stays l i x t) (stay l i s (sym (ap (λ y. lt y l.value) x-is) ∙ t)))))
    where
      shift : (i k : ℕ) → i + suc k ≡ i + 1 + k
      shift i k = omega arith

-- before the first lane
nothing_seen : (g : ℕ → Float) → Seen g (record { place = 0; value = plus_infinity }) 0
nothing_seen g = record { none = λ j k. absurd (not-suc-le-zero k); found = inl (refl, refl) }

module _ (xs : List Float) where
  lane : ℕ → Float
  lane j = get_or xs j nan

  -- of two lanes that these words name neither comes before the other: below +infinity the two are equal, and else the later one is lane 0
  not-before : (s t : ℕ) → Starts xs s → Starts xs t → s < t → ⊥
  unfolding lane
  not-before s t a b k =
      test (lt (lane s) plus_infinity)
      (λ h. clash (b.first s k) (neither_below (lane s) (lane t) h (b.below s h) (b.lowest s) (a.lowest t)))
      (λ h. not-suc-le-zero (rw (b.lane_0 (λ j. refuted (lt (lane j) plus_infinity) (λ u. clash h (a.below j u)))) at k))

  seen : Seen lane (start_lane xs) (length xs)
  unfolding start_lane lane
  seen = let e : 0 + length xs ≡ length xs = omega arith in subst (λ (n : ℕ). Seen lane (start_lane xs) n) e (walk lane xs _ 0 (λ k. ap lane (sym (zero-add k))) (nothing_seen lane))

  none_below : (j : ℕ) → lt (lane j) (start_lane xs).value ≡ false
  unfolding lane
  none_below j = ⊎_elim (λ h. seen.none j h) (λ h. rw (get_or-eq_default xs nan h) (nan_not_lt _)) (cases_lt j (length xs))

  starts : Starts xs (start_lane xs).place
  unfolding lane
  starts =
      record {
        below = λ j h. ⊎_elim (λ w. clash (rw w.0 at none_below j) h) (λ w. (rw w.1 at w).2) seen.found;
        lowest = λ j. ⊎_elim (λ w. refuted (lt (lane j) (lane (start_lane xs).place)) (λ t. clash (rw w.0 at none_below j) (below_infinity (lane j) (lane (start_lane xs).place) t))) (λ w. rw (← w.1) (none_below j)) seen.found;
        first = λ j k. ⊎_elim (λ w. absurd (not-suc-le-zero (rw w.1 at k))) (λ w. rw (← w.1) (w.3 j k)) seen.found;
        lane_0 = λ h. ⊎_elim (λ w. w.1) (λ w. clash (h (start_lane xs).place) (rw w.1 at w).2) seen.found;
      }

  pub one_start : OneStart xs
  one_start =
      record {
        starts = starts;
        only = λ s t a b. ⊎_elim (λ k. absurd (not-before s t a b k)) (λ h. ⊎_elim (λ e. sym e) (λ k. absurd (not-before t s b a k)) (eq-or-lt_of_le h)) (cases_lt s t);
      }

-- where not every lane is -infinity the start is one of them
pub start_inside : (xs : List Float) → all_ln_zero xs ≡ false → (start_lane xs).place < length xs
unfolding all_ln_zero
start_inside [] h = absurd (true≢false h)
start_inside (x ∷ xs) h = ⊎_elim (λ w. rw w.1 (omega arith)) (λ w. w.0) (seen (x ∷ xs)).found

-- what `ln_sum_exp_array` needs beside its definition
pub ruleset ends = (start_inside, minus_infinity)
