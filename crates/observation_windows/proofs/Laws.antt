-- By the windows of two tables an observation does what it does by the tables. Assumes nothing.
use mathlib.Core.Path.{◌≡◌, refl}
use mathlib.Core.List.{[]}
use Prim.Native.Nat.{ℕ, ◌+◌, ◌-◌, ◌<◌}
use native.Mathlib.Omega.{arith}
use lib.Dec.{eqb}
use lib.ListN.{get_or}
use lib.Ieee.{Float, nan}
use Rattle.words.proofs.Cases.{test}
use Rattle.words.proofs.Listed.{level_at}
use Rattle.rate_tables.specs.declared.adjusted.AdjustedProbabilityTables.{AdjustedProbabilityTables}
use Rattle.tie_rules.specs.Lanes.{lanes, no_lane, lane_of_byte}
use Rattle.tie_rules.proofs.Lanes.{four, in_lane}
use Rattle.base_builder.specs.declared.builder.ConsensusBaseBuilder.{ConsensusBaseBuilder}
use Rattle.lane_sums.specs.Observation.{value_of}
use Rattle.base_builder.specs.Builder.{entry_of, observed, is_full, added_by, added}
use Rattle.observation_windows.specs.Windows.{window_of, window_at, windows_of, window_observed, window_added}

-- from place 3 - k on a window holds what each lane is moved by where lane k was observed
module _ (correct error : Float) where
  pub window_at_lem : (k i : ℕ) → k < 4 → i < 4 → get_or (window_of correct error) (3 - k + i) nan ≡ value_of correct error k i
  unfolding window_of value_of
  window_at_lem k i h l = four (λ (k : ℕ). At k i) (each 0 refl refl refl refl) (each 1 refl refl refl refl) (each 2 refl refl refl refl) (each 3 refl refl refl refl) k h
    where
      At : ℕ → ℕ → Type 0
      At k i = get_or (window_of correct error) (3 - k + i) nan ≡ value_of correct error k i

      each : (k : ℕ) → At k 0 → At k 1 → At k 2 → At k 3 → At k i
      each k a c g t = four (At k) a c g t i l

module _ (t : AdjustedProbabilityTables) where
  -- the row of a quality
  row_at : (q : ℕ) → get_or (windows_of t) (entry_of q) [] ≡ window_at t (entry_of q)
  unfolding windows_of
  row_at q = level_at (window_at t) [] 94 (entry_of q) (omega arith)

  observed_same : (q k : ℕ) (b : ConsensusBaseBuilder) → k < 4
      → window_observed (get_or (windows_of t) (entry_of q) []) k b ≡ observed (get_or t.correct (entry_of q) nan) (get_or t.error_per_alt (entry_of q) nan) k b
  unfolding window_observed observed lanes
  observed_same q k b h =
      let value = λ (i : ℕ) (l : i < 4). window_at_lem (get_or t.correct (entry_of q) nan) (get_or t.error_per_alt (entry_of q) nan) k i h l in
      rw (row_at q) (rw (value 0 (omega arith), value 1 (omega arith), value 2 (omega arith), value 3 (omega arith)))

  -- so of any byte, at any quality and to any builder
  pub added_same : (base q : ℕ) (b : ConsensusBaseBuilder) → window_added (windows_of t) base q b ≡ added t.correct t.error_per_alt base q b
  unfolding window_added added added_by
  added_same base q b =
      test (eqb (lane_of_byte base) no_lane)
      (λ e. rw e)
      (λ e. test (is_full b) (λ f. rw (e, f)) (λ f. rw (e, f) (observed_same q (lane_of_byte base) b (in_lane base e))))
