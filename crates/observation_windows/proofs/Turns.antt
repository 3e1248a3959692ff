-- Observations one at a time, and how many more a builder can count. Assumes nothing.
use mathlib.Core.Path.{◌≡◌, refl, sym, ◌∙◌}
use mathlib.Core.Bool.{true, false, or-true}
use mathlib.Core.List.{List, [], ◌∷◌, ◌++◌}
use Prim.Native.Nat.{ℕ, ◌-◌, ◌<◌}
use native.Mathlib.Omega.{arith}
use borrow.Author.Tests.{le-leb, lt-leb}
use lib.Dec.{eqb}
use lib.ListN.{length, get_or}
use lib.Ieee.{Float}
use Rattle.tie_rules.specs.Lanes.{no_lane, lane_of_byte}
use Rattle.tie_rules.proofs.Lanes.{in_lane}
use Rattle.base_builder.specs.declared.builder.ConsensusBaseBuilder.{ConsensusBaseBuilder}
use Rattle.base_builder.specs.Builder.{total, is_full, entry_of, full_count}
use Rattle.base_builder.proofs.Totals.{total_more}
use Rattle.observation_windows.specs.Windows.{window_observed, window_added, all_added}

module _ (rows : List (List Float)) where
  -- fewer than two bytes
  pub few : (b : ConsensusBaseBuilder) (s : List ℕ) → length s < 2 → all_added rows b s ≡ b
  unfolding all_added
  few b [] h = refl
  few b (x ∷ []) h = refl
  few b (x ∷ y ∷ s) h = absurd (omega arith)

  -- a full builder stays as it is
  full_stays : (b : ConsensusBaseBuilder) (s : List ℕ) → is_full b ≡ true → all_added rows b s ≡ b
  unfolding all_added window_added
  full_stays b [] h = refl
  full_stays b (x ∷ []) h = refl
  full_stays b (x ∷ y ∷ s) h = rw (h, or-true (eqb (lane_of_byte x) no_lane)) (full_stays b s h)

  -- one with no room left is full
  pub stays : (b : ConsensusBaseBuilder) (s : List ℕ) (left : ℕ) → left ≡ full_count - total b.observations → left ≡ 0 → all_added rows b s ≡ b
  unfolding is_full
  stays b s left e z = full_stays b s (le-leb full_count (total b.observations) (omega arith))

  -- a pair of bytes, and those after it
  module _ (b : ConsensusBaseBuilder) (pair s : List ℕ) (two : length pair ≡ 2) where
    all_more : (pair : List ℕ) → length pair ≡ 2 → all_added rows b (pair ++ s) ≡ all_added rows (window_added rows (get_or pair 0 0) (get_or pair 1 0) b) s
    unfolding all_added
    all_more [] h = absurd (omega arith)
    all_more (x ∷ []) h = absurd (omega arith)
    all_more (x ∷ y ∷ []) h = refl
    all_more (x ∷ y ∷ z ∷ t) h = absurd (omega arith)

    -- no base
    pub ignored : eqb (lane_of_byte (get_or pair 0 0)) no_lane ≡ true → all_added rows b s ≡ all_added rows b (pair ++ s)
    unfolding window_added
    ignored n = sym (all_more pair two ∙ rw n)

    -- a base, with room left for it
    module _ (left : ℕ) (e : left ≡ full_count - total b.observations) (some : left ≡ 0 → ⊥) (n : eqb (lane_of_byte (get_or pair 0 0)) no_lane ≡ false)
        (after : ConsensusBaseBuilder) (o : let k = lane_of_byte (get_or pair 0 0) in after ≡ window_observed (get_or rows (entry_of (get_or pair 1 0)) []) k b) where
      pub room_less : left - 1 ≡ full_count - total after.observations
      unfolding window_observed
      room_less = rw o (omega (arith, total_more b.observations (lane_of_byte (get_or pair 0 0)) (in_lane (get_or pair 0 0) n) (omega arith)))

      pub observed : all_added rows after s ≡ all_added rows b (pair ++ s)
      unfolding window_added is_full
      observed = rw o (sym (all_more pair two ∙ rw (n, lt-leb full_count (total b.observations) (omega arith))))
