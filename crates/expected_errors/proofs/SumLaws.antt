-- Sums over a column: one observation at a time, their bounds, and that they are exact in 64 bits. Assumes nothing.
use Rattle.std.specs.Prelude.{sum_by}
use Rattle.std.proofs.Common.{◌≡◌, ℕ, ◌+◌, ◌*◌, ◌%◌, ◌^◌, ◌<◌, ◌≤◌, List, [], ◌∷◌, ◌++◌, length, get_or, sym, refl, subst, le_of_lt, mod-eq_of_lt, add-mul, arith}
use Rattle.std.proofs.lemmas.List.Sums.{sum_by-cons, sum_by-le}
use Rattle.column_file.specs.Format.{Observation}
use Rattle.column_file.specs.Places.{observations_in}
use Rattle.expected_errors.specs.Table.{error_table, error_of}
use Rattle.expected_errors.specs.Sums.{errors_with, error_sum}
use Rattle.expected_errors.specs.Laws.{most_qualities, ExactWith, SumLaws, NoMoreFit}
use Rattle.expected_errors.proofs.Rule.{rule, brackets, most}

-- ---- any sums

module _ {A : Type 0} (f : A → ℕ) where
  one_each : (c : List A) → sum_by f c + length c ≡ sum_by (λ x. f x + 1) c
  one_each [] = refl
  one_each (x ∷ c) = omega (arith, sum_by-cons f x c, sum_by-cons (λ y. f y + 1) x c, one_each c)

  module _ (g : A → ℕ) (b : ℕ) where
    sums_below : ((x : A) → f x ≤ g x * b) → (c : List A) → sum_by f c ≤ sum_by g c * b
    sums_below h [] = omega arith
    sums_below h (x ∷ c) = rw (sum_by-cons f x c, sum_by-cons g x c, add-mul (g x) (sum_by g c) b) (omega (arith, h x, sums_below h c))

    sums_above : ((x : A) → g x * b ≤ f x) → (c : List A) → sum_by g c * b ≤ sum_by f c
    sums_above h [] = omega arith
    sums_above h (x ∷ c) = rw (sum_by-cons f x c, sum_by-cons g x c, add-mul (g x) (sum_by g c) b) (omega (arith, h x, sums_above h c))

-- ---- the sums of a column

pub exact_with : (table : List ℕ) → ExactWith table
unfolding errors_with
exact_with table h c few = omega (arith, sum_by-le (λ (o : Observation). get_or table o.quality 0) (2 ^ 48) c (λ k d _. h (get_or c k d).quality))

pub sum_laws : (c : List Observation) → SumLaws c
unfolding error_sum errors_with error_of
sum_laws c = record {
  exact = λ few. exact_with error_table most c few;
  lower = refl;
  upper = one_each _ c;
  below = λ a b pos h.
      subst (λ (x : ℕ). sum_by (λ (o : Observation). a o.quality) c ≤ x * b) (sym (one_each _ c))
      (sums_below _ _ b (λ o. le_of_lt ((brackets o.quality _ (rule o.quality)).below (a o.quality) b pos (h o.quality))) c);
  above = λ a b pos h. sums_above _ _ b (λ o. (brackets o.quality _ (rule o.quality)).above (a o.quality) b pos (h o.quality)) c;
}

-- so a sum in 64 bits is the sum
pub nothing_lost : (c : List Observation) → length c ≤ most_qualities → error_sum c % 2 ^ 64 ≡ error_sum c
nothing_lost c few =
    let below = (sum_laws c).exact few in
    mod-eq_of_lt (omega arith)

pub no_more_fit : NoMoreFit
unfolding error_of error_table
no_more_fit = refl

-- ---- the turns of a loop over the pairs of a column's bytes

module _ (table : List ℕ) where
  -- one quality more
  pub turn : (pair rest : List ℕ) → length pair ≡ 2
      → errors_with table (observations_in (pair ++ rest)) ≡ get_or table (get_or pair 1 0) 0 + errors_with table (observations_in rest)
  unfolding errors_with observations_in
  turn (b ∷ q ∷ []) rest h = sum_by-cons (λ (o : Observation). get_or table o.quality 0) (record { base = b; quality = q }) (observations_in rest)
  turn [] rest h = absurd (omega arith)
  turn (b ∷ []) rest h = absurd (omega arith)
  turn (b ∷ q ∷ x ∷ l) rest h = absurd (omega arith)

  -- nothing is left
  pub turned : (rest : List ℕ) → length rest < 2 → errors_with table (observations_in rest) ≡ 0
  unfolding errors_with observations_in
  turned [] h = refl
  turned (x ∷ []) h = refl
  turned (x ∷ y ∷ l) h = absurd (omega arith)
