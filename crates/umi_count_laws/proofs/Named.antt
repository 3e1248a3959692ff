-- Where the two logarithms of an observation are far enough apart, the lane that was observed most often is the one that the sums name. Assumes nothing.
use mathlib.Core.Path.{◌≡◌, refl, sym, ◌∙◌, subst}
use mathlib.Core.Bool.{Bool, true, false, ◌&&◌}
use mathlib.Core.Logic.{◌≢◌}
use mathlib.Core.List.{List}
use Prim.Native.Nat.{ℕ, suc, ◌+◌, ◌-◌, ◌*◌, ◌%◌, ◌^◌, ◌≤◌, ◌<◌}
use native.Mathlib.Nat.{mul_assoc, mul_comm, mul-pos, mul-le-mul, mul-le-mul_right, lt_of_le_of_lt, mul-lt-mul_of_pos_right}
use native.Mathlib.Omega.{arith}
use lib.Dec.{ltb, lit<}
use lib.ListN.{length}
use lib.Pow.{pow_pos}
use lib.Ieee.{Float, nan, inf, fin, binary64, up, down, round, neg, lt, le, eq, of_bits, is_nan}
use lib.Ieee.Exact.{HasValue}
use lib.Ieee.Positive.{den, den_pos}
use lib.Ieee.Scale.{finite}
use borrow.Author.Tests.{ltb-false}
use Rattle.float.specs.Ops.{◌⊖◌, plus_zero, one, two, epsilon}
use Rattle.words.proofs.Cases.{test, clash, both}
use Rattle.float.proofs.Order.{lt_trans, lt-le, le_le, le_numbers, le_not_lt, not_lt_le}
use Rattle.float.proofs.Gap.{gap_lt}
use Rattle.tie_rules.specs.declared.tie_rule.TieRule.TheVariants.{FgbioCompat}
use Rattle.tie_rules.specs.Lanes.{lane}
use Rattle.tie_rules.specs.Ties.{unique_max_index_with}
use Rattle.tie_rules.proofs.Clear.{all_clear}
use Rattle.lane_sums.specs.Observation.{sum_at}
use Rattle.base_builder_laws.proofs.Named.{named}
use Rattle.observation_windows.specs.Windows.{window_of}
use Rattle.umi_column.specs.Sums.{no_sums, summed_all}
use Rattle.umi_count_laws.specs.Counts.{times_observed, minus32, logarithms_apart, Leads}
use Rattle.umi_count_laws.specs.Named.{NamedByCounts}
use Rattle.umi_count_laws.proofs.Rounding.{near}
use Rattle.umi_count_laws.proofs.Places.{Fine, At, over, under, unit, base, less, lt_is, lt_places, le_places}
use Rattle.umi_count_laws.proofs.KahanStep.{Stands}
use Rattle.umi_count_laws.proofs.Sums.{fall, fall_most, falls, summed}

-- ---- the places of the two logarithms
-- from -32 to 0: g below 0
abbrev Placed : ℕ → Float → Type 0
Placed e x = (v : ℕ) × (g : ℕ) × At e x v × (v + g ≡ base e) × (g ≤ 32 * unit e)

module _ (e : ℕ) (fine : Fine e) where
  unit_some : 0 < unit e
  unit_some = omega (arith, fine.some)

  -- what the two are compared with
  minus32_value : HasValue minus32 true (32 * unit e) (unit e)
  unfolding neg of_bits
  minus32_value = (refl, omega arith)

  zero_value : HasValue plus_zero false 0 (unit e)
  unfolding of_bits
  zero_value = (refl, omega arith)

  placed : (x : Float) (s : Bool) (a : ℕ) → HasValue x s a (unit e) → le minus32 x ≡ true → le x plus_zero ≡ true → Placed e x
  placed x true a v h k =
      test (ltb (32 * unit e) a)
      (λ t. clash (le_not_lt minus32 x h) (lt_is (unit e) unit_some x minus32 true true a (32 * unit e) v minus32_value ∙ t))
      (λ t. let l = ltb-false (32 * unit e) a t in (base e - a, a, under a v (omega arith), omega arith, omega arith))
  placed x false a v h k =
      test (ltb 0 a)
      (λ t. clash (le_not_lt x plus_zero k) (lt_is (unit e) unit_some plus_zero x false false 0 a zero_value v ∙ t))
      (λ t. let l = ltb-false 0 a t in (base e, 0, over a v (omega arith), omega arith, omega arith))

  one_at : At e one (base e + unit e)
  unfolding of_bits
  one_at = over (unit e) (refl, omega arith) refl

  two_at : At e two (base e + 2 * unit e)
  unfolding of_bits
  two_at = over (2 * unit e) (refl, omega arith) refl

  -- where the rounded difference is 2 or more, the exact one is but for a step
  far : (correct error : Float) (u p w q : ℕ) → At e correct u → u + p ≡ base e → p ≤ 32 * unit e → At e error w → w + q ≡ base e → q ≤ 32 * unit e
      → le two (correct ⊖ error) ≡ true → p + 2 * unit e ≤ q + e
  far correct error u p w q a i b c j d h =
      let some = fine.some in
      let (r, l, n) = less e fine a c (omega arith) (omega arith) (omega arith) in
      omega (arith, n.0, le_places e fine two_at l h)

-- ---- the lanes
eps_one : lt epsilon one ≡ true
unfolding lt of_bits
eps_one = refl

-- what has a value, and so what has a place, is finite
valued : (x : Float) (s : Bool) (a c : ℕ) → HasValue x s a c → finite x ≡ true
valued nan s a c h = absurd h
valued (inf t) s a c h = absurd h
valued (fin t m i) s a c h = refl

at_finite : {e : ℕ} {x : Float} {v : ℕ} → At e x v → finite x ≡ true
at_finite {e} {x} (over a p i) = valued x false a (unit e) p
at_finite {e} {x} (under a p i) = valued x true a (unit e) p

module _ (e : ℕ) (fine : Fine e) (correct error : Float) (u w p q : ℕ) (correct_at_lem : At e correct u) (error_at : At e error w) (correct_is : u + p ≡ base e) (error_is : w + q ≡ base e) (wide : p + 2 * unit e ≤ q + e) (most : q ≤ 32 * unit e) (column : List ℕ) (short : length column ≤ 255) where
  abbrev found : List Float
  found = (summed_all (window_of correct error) column no_sums).likelihoods

  order : p ≤ q
  order = omega (arith, fine.some)

  gap : p + (q - p) ≡ q
  gap = omega (arith, order)

  -- 255 observations of 32 at most
  fall_room : (i : ℕ) → fall p q i column ≤ 8160 * unit e
  fall_room i = omega (arith, fall_most p q (q - p) gap i column, mul-le-mul short most)

  stands : (i : ℕ) → i < 4 → Stands e (sum_at (summed_all (window_of correct error) column no_sums) i) (fall p q i column) (length column)
  stands i inside = summed e fine correct error u w p q correct_at_lem error_at correct_is error_is order most i inside column (fall_room i) short

  -- the lane that was observed more often is more than 1 above
  ahead : (i j : ℕ) → i < 4 → j < 4 → times_observed j column < times_observed i column → lt epsilon (lane found i ⊖ lane found j) ≡ true
  ahead i j h k more =
      let some = fine.some in
      let a = stands i h in
      let b = stands j k in
      let fa = fall_room i in
      let fb = fall_room j in
      let slack : length column * e ≤ 255 * e = mul-le-mul_right e short in
      let counts : suc (times_observed j column) * (q - p) ≤ times_observed i column * (q - p) = mul-le-mul_right (q - p) more in
      let level = falls p q (q - p) gap i j h k column in
      let (r, l, n) = less e fine a.lane_at b.lane_at (omega arith) (omega arith) (omega arith) in
      lt_trans epsilon one (lane found i ⊖ lane found j) eps_one (lt_places e fine (one_at e fine) l (omega arith))

  named_on : (i : ℕ) → i < 4 → Leads column i → unique_max_index_with found FgbioCompat ≡ i
  named_on i h leads =
      let clear : (j : ℕ) → j < 4 → j ≢ i → lt epsilon (lane found i ⊖ lane found j) ≡ true = λ j k d. ahead i j h k (leads j k d) in
      named found i h (at_finite (stands i h).lane_at) (λ j k d. gap_lt (lane found i) (lane found j) (clear j k d)) FgbioCompat
      (all_clear found i (lane found i) h
      (clear ((i + 1) % 4) (omega arith) (λ (z : (i + 1) % 4 ≡ i). omega arith))
      (clear ((i + 2) % 4) (omega arith) (λ (z : (i + 2) % 4 ≡ i). omega arith))
      (clear ((i + 3) % 4) (omega arith) (λ (z : (i + 3) % 4 ≡ i). omega arith)))

-- ---- a scale for any two values
-- a step of 2^-12: a value up to 16384 is moved by far less
fine_scale : (w : ℕ) → 0 < w → Fine (2 ^ 1062 * w)
fine_scale w W = record {
  some = mul-pos (pow_pos 1062) W;
  round_near = λ s n h.
      let (g, v, a, b) = near binary64 w 1062 W (lit< tt) s n (lt_of_le_of_lt (subst (λ (z : ℕ). n ≤ z) (sym (mul_assoc 67108864 (2 ^ 1062) w)) h) (mul-lt-mul_of_pos_right (lit< {m = 2 ^ 1088} {n = 2 ^ 1115} tt) W)) in
      (g, subst (λ (c : ℕ). HasValue (round binary64 s n c) s g c) (mul_assoc 4096 (2 ^ 1062) w) v, (a, b));
}

held_is : (m h w d : ℕ) → m * (4096 * (h * (w * d))) ≡ m * (4096 * (h * w)) * d
held_is m h w d = omega arith

-- what lies from -32 to 0 is finite, and a whole number of units
held : (x : Float) → le minus32 x ≡ true → le x plus_zero ≡ true → (w : ℕ) → (s : Bool) × (a : ℕ) × HasValue x s a (unit (2 ^ 1062 * (w * den x)))
unfolding le lt eq neg of_bits
held nan h k w = clash refl h
held (inf true) h k w = clash refl h
held (inf false) h k w = clash refl k
held (fin s m i) h k w = (s, m * up i * (4096 * (2 ^ 1062 * w)), (refl, held_is (m * up i) (2 ^ 1062) w (down i)))

-- 2 and more is above 2^-52
two_above : le two epsilon ≡ false
unfolding le lt eq of_bits
two_above = refl

eps_number : is_nan epsilon ≡ false
unfolding is_nan of_bits
eps_number = refl

far_lt : (z : Float) → le two z ≡ true → lt epsilon z ≡ true
far_lt z h = test (lt epsilon z) (λ t. t) (λ t. clash two_above (le_le two z epsilon h (not_lt_le epsilon z eps_number (le_numbers two z h).1 t)))

-- ---- the theorem
pub named_by_counts : NamedByCounts
unfolding logarithms_apart
named_by_counts correct error h column short i inside leads =
    let (ab, c) = both (le minus32 error && le correct plus_zero) (le two (correct ⊖ error)) h in
    let (a, b) = both (le minus32 error) (le correct plus_zero) ab in
    let l = lt-le error correct (gap_lt correct error (far_lt (correct ⊖ error) c)) in
    let e = 2 ^ 1062 * (den error * den correct) in
    let fine = fine_scale (den error * den correct) (mul-pos (den_pos error) (den_pos correct)) in
    let low = le_le minus32 error correct a l in
    let high = le_le error correct plus_zero l b in
    let (s, x, sx) = held correct low b (den error) in
    let (t, y, ty) = held error a high (den correct) in
    let (u, p, ca, ci, cm) = placed e fine correct s x sx low b in
    let (w, q, ea, ei, em) = placed e fine error t y (subst (λ (z : ℕ). HasValue error t y (unit (2 ^ 1062 * z))) (mul_comm (den correct) (den error)) ty) a high in
    named_on e fine correct error u w p q ca ea ci ei (far e fine correct error u p w q ca ci cm ea ei em c) em column short i inside leads
