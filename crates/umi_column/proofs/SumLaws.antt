-- The sums of a column's lanes are those of the builder, which a column of 4,294,967,295 bytes or fewer never finds full. Assumes nothing.
use mathlib.Core.Path.{◌≡◌, refl, ◌∙◌}
use mathlib.Core.Bool.{false, ◌||◌}
use mathlib.Core.List.{List, [], ◌∷◌}
use Prim.Native.Nat.{ℕ, ◌+◌, ◌≤◌}
use native.Mathlib.Omega.{arith}
use borrow.Author.Tests.{lt-leb, leb-false}
use lib.Dec.{eqb}
use lib.Ieee.{Float}
use lib.ListN.{length}
use Rattle.words.proofs.Cases.{test, choice}
use Rattle.tie_rules.specs.Lanes.{lanes, no_lane, lane_of_byte}
use Rattle.tie_rules.proofs.Lanes.{in_lane}
use Rattle.lane_sums.specs.declared.observation.LaneSums.{LaneSums}
use Rattle.base_builder.specs.declared.builder.ConsensusBaseBuilder.{ConsensusBaseBuilder}
use Rattle.base_builder.specs.Builder.{total, cleared, reset_of, observed, full_count, is_full, added_by}
use Rattle.base_builder.proofs.Totals.{total_more}
use Rattle.observation_windows.specs.Windows.{window_of}
use Rattle.observation_windows.proofs.Laws.{window_at_lem}
use Rattle.umi_column.specs.Calls.{added_all, named_byte}
use Rattle.umi_column.specs.Sums.{no_sums, summed_by, summed_all, byte_by}

-- the sums are the builder's
abbrev Agree : ConsensusBaseBuilder → LaneSums → Type 0
Agree b s = (b.likelihoods ≡ s.likelihoods) × (b.compensations ≡ s.compensations)

module _ (correct error : Float) where
  -- one byte more, for a builder that is not full
  added_agree : (x : ℕ) (b : ConsensusBaseBuilder) (s : LaneSums) → is_full b ≡ false → Agree b s → Agree (added_by correct error x b) (summed_by (window_of correct error) x s)
  unfolding added_by observed summed_by lanes
  added_agree x b s free e =
      test (eqb (lane_of_byte x) no_lane)
      (λ t. rw t e)
      (λ t.
      let k = lane_of_byte x in
      let n = in_lane x t in
      rw (
        t,
        free,
        e.0,
        e.1,
        window_at_lem correct error k 0 n (omega arith),
        window_at_lem correct error k 1 n (omega arith),
        window_at_lem correct error k 2 n (omega arith),
        window_at_lem correct error k 3 n (omega arith),
      )
      (refl, refl))

  -- it counts one at most
  total_most : (x : ℕ) (b : ConsensusBaseBuilder) → is_full b ≡ false → total (added_by correct error x b).observations ≤ total b.observations + 1
  unfolding added_by observed is_full
  total_most x b free =
      test (eqb (lane_of_byte x) no_lane)
      (λ t. rw t (omega arith))
      (λ t. rw (t, free) (omega (arith, total_more b.observations (lane_of_byte x) (in_lane x t) (leb-false full_count (total b.observations) free))))

  all_agree : (column : List ℕ) (b : ConsensusBaseBuilder) (s : LaneSums) → total b.observations + length column ≤ full_count → Agree b s
      → Agree (added_all correct error column b) (summed_all (window_of correct error) column s)
  unfolding added_all summed_all is_full
  all_agree [] b s h e = e
  all_agree (x ∷ xs) b s h e =
      let free : is_full b ≡ false = lt-leb full_count (total b.observations) (omega arith) in
      let most = total_most x b free in
      all_agree xs (added_by correct error x b) (summed_by (window_of correct error) x s) (omega arith) (added_agree x b s free e)

  rule_kept : (column : List ℕ) (b : ConsensusBaseBuilder) → (added_all correct error column b).tie_rule ≡ b.tie_rule
  unfolding added_all added_by observed
  rule_kept [] b = refl
  rule_kept (x ∷ xs) b =
      let k = lane_of_byte x in
      rule_kept xs (added_by correct error x b)
      ∙ choice (λ (r : ConsensusBaseBuilder). r.tie_rule ≡ b.tie_rule) (eqb k no_lane || is_full b) b (observed correct error k b) (λ _. refl) (λ _. refl)

  -- so the byte by the sums is the byte by the builder
  pub sums_byte : (column : List ℕ) (b : ConsensusBaseBuilder) (first : ℕ) → length column ≤ full_count
      → byte_by (summed_all (window_of correct error) column no_sums).likelihoods b.tie_rule first ≡ named_byte (added_all correct error column (reset_of b)) first
  unfolding byte_by named_byte no_sums reset_of cleared total
  sums_byte column b first h =
      let same = all_agree column (reset_of b) no_sums (omega arith) (refl, refl) in
      rw (same.0, rule_kept column (reset_of b))
