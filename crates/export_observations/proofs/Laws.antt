-- The counts of a builder, and the bytes that they are. Assumes nothing.
use Rattle.std.proofs.Common.{◌≡◌, ℕ, zero, suc, ◌+◌, List, [], ◌∷◌, ◌++◌, length, sym, ap, ◌∙◌, append-nil, add-zero, zero-add, add-one, arith, length-append, eq-eqb, ne_eqb}
use Rattle.words.specs.Lists.{listed}
use Rattle.words.proofs.Listed.{listed_length}
use Rattle.tie_rules.specs.Lanes.{lanes}
use Rattle.base_builder.specs.declared.builder.ConsensusBaseBuilder.{ConsensusBaseBuilder}
use Rattle.base_builder.specs.Builder.{contributions_of, observations_for_base}
use Rattle.lent_bytes.specs.Bytes.{joined, four_bytes}
use Rattle.lent_bytes.proofs.Joined.{joined_append}
use Rattle.lent_bytes.proofs.Numbers.{fours_length}
use Rattle.export_reports.specs.State.{builder_of}
use Rattle.export_observations.specs.Observations.{observation_counts, observation_count_bytes}

listed_more : (f : ℕ → ℕ) (a n : ℕ) → listed f a (suc n) ≡ listed f a n ++ f (a + n) ∷ []
unfolding listed
listed_more f a zero = rw add-zero
listed_more f a (suc n) =
    let e : a + 1 + n ≡ a + suc n = omega arith in
    ap (λ l. f a ∷ l) (listed_more f (a + 1) n ∙ rw e)

-- one number more in four bytes
pub fours_more : (f : ℕ → ℕ) (n : ℕ) → joined four_bytes (listed f 0 (n + 1)) ≡ joined four_bytes (listed f 0 n) ++ four_bytes (f n)
fours_more f n = rw (add-one n, listed_more f 0 n, joined_append four_bytes, append-nil, zero-add)

-- the three parts
pub three_parts : (b : ConsensusBaseBuilder)
    → four_bytes (contributions_of b) ++ (joined four_bytes (listed (observations_for_base b) 0 256) ++ joined four_bytes b.observations) ≡ joined four_bytes (observation_counts b)
unfolding observation_counts
three_parts b = ap (λ l. four_bytes (contributions_of b) ++ l) (sym (joined_append four_bytes (listed (observations_for_base b) 0 256) b.observations))

-- 261 of them
counts_length : (pre : ℕ) (s : List ℕ) → length (observation_counts (builder_of pre s)) ≡ 261
unfolding observation_counts builder_of lanes
counts_length pre s = simp (length-append, listed_length)

-- the bytes of a state: 1,044 where it has 80, and else none
module _ (s : List ℕ) where
  pub eighty : length s ≡ 80 → observation_count_bytes s ≡ joined four_bytes (observation_counts (builder_of 0 s))
  unfolding observation_count_bytes
  eighty e = rw (eq-eqb (length s) 80 e)

  pub not_eighty : (length s ≡ 80 → ⊥) → observation_count_bytes s ≡ []
  unfolding observation_count_bytes
  not_eighty n = rw (ne_eqb (length s) 80 n)

  pub eighty_length : length s ≡ 80 → length (observation_count_bytes s) ≡ 1044
  eighty_length e = rw (eighty e) (omega (arith, fours_length (observation_counts (builder_of 0 s)), counts_length 0 s))
