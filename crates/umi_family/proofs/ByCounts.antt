-- Four counts of which one is above each other: so the lane leads the column. Assumes nothing.
use mathlib.Core.Path.{◌≡◌, refl}
use mathlib.Core.List.{List, [], ◌∷◌}
use mathlib.Core.Logic.{◌≢◌}
use Prim.Native.Nat.{ℕ, ◌<◌}
use lib.ListN.{get_or}
use Rattle.tie_rules.proofs.Lanes.{four}
use Rattle.umi_count_laws.specs.Counts.{times_observed, Leads}
use Rattle.umi_family.specs.Counts.{Above}

-- ---- of four counts, one that is above the three others
module _ (a c g t : ℕ) where
  abbrev counts : List ℕ
  counts = a ∷ c ∷ g ∷ t ∷ []

  pub above_first : (c < a) × (g < a) × (t < a) → Above counts 0
  above_first h = four (λ (j : ℕ). j ≢ 0 → get_or counts j 0 < a) (λ n. absurd (n refl)) (λ _. h.0) (λ _. h.1) (λ _. h.2)

  pub above_second : (a < c) × (g < c) × (t < c) → Above counts 1
  above_second h = four (λ (j : ℕ). j ≢ 1 → get_or counts j 0 < c) (λ _. h.0) (λ n. absurd (n refl)) (λ _. h.1) (λ _. h.2)

  pub above_third : (a < g) × (c < g) × (t < g) → Above counts 2
  above_third h = four (λ (j : ℕ). j ≢ 2 → get_or counts j 0 < g) (λ _. h.0) (λ _. h.1) (λ n. absurd (n refl)) (λ _. h.2)

  pub above_fourth : (a < t) × (c < t) × (g < t) → Above counts 3
  above_fourth h = four (λ (j : ℕ). j ≢ 3 → get_or counts j 0 < t) (λ _. h.0) (λ _. h.1) (λ _. h.2) (λ n. absurd (n refl))

-- the four counts are the column's
counts_at : (column : List ℕ) (a c g t : ℕ) → a ≡ times_observed 0 column → c ≡ times_observed 1 column → g ≡ times_observed 2 column → t ≡ times_observed 3 column
    → (j : ℕ) → j < 4 → get_or (a ∷ c ∷ g ∷ t ∷ []) j 0 ≡ times_observed j column
counts_at column a c g t e f p q = four (λ (j : ℕ). get_or (a ∷ c ∷ g ∷ t ∷ []) j 0 ≡ times_observed j column) e f p q

pub leads : (column : List ℕ) (a c g t : ℕ) → a ≡ times_observed 0 column → c ≡ times_observed 1 column → g ≡ times_observed 2 column → t ≡ times_observed 3 column
    → (i : ℕ) → i < 4 → Above (a ∷ c ∷ g ∷ t ∷ []) i → Leads column i
leads column a c g t e f p q i h above j l n =
    rw (← counts_at column a c g t e f p q j l, ← counts_at column a c g t e f p q i h) (above j l n)
