-- As it is run; `added_same` (observation_windows/proofs/Laws) joins it to `added`: what observations do to a builder by a table of windows.
use Rattle.std.specs.Prelude.{ℕ, ◌+◌, ◌-◌, ◌||◌, List, [], ◌∷◌, eqb, get_or, Float}
use Rattle.std.specs.Float.{nan}
use Rattle.std.specs.Prelude.{if◌then◌else◌}
use Rattle.words.specs.Lists.{listed}
use Rattle.rate_tables.specs.declared.adjusted.AdjustedProbabilityTables.{AdjustedProbabilityTables}
use Rattle.tie_rules.specs.Lanes.{no_lane, lane_of_byte}
use Rattle.base_builder.specs.declared.builder.ConsensusBaseBuilder.{ConsensusBaseBuilder}
use Rattle.base_builder.specs.Builder.{observed_by, entry_of, is_full}

-- ---- windows

-- the one logarithm amid the other: from place 3 - k on stand the values of the four lanes where lane k was observed
unfoldable pub window_of : Float → Float → List Float
window_of correct error = error ∷ error ∷ error ∷ correct ∷ error ∷ error ∷ error ∷ error ∷ []

-- the window of entry q of two tables
abbrev pub window_at : AdjustedProbabilityTables → ℕ → List Float
window_at t q = window_of (get_or t.correct q nan) (get_or t.error_per_alt q nan)

-- a window for each of the 94 qualities
unfoldable pub windows_of : AdjustedProbabilityTables → List (List Float)
windows_of t = listed (window_at t) 0 94

-- ---- observations, by any table

-- the builder after lane k was observed, by a window
unfoldable pub window_observed : List Float → ℕ → ConsensusBaseBuilder → ConsensusBaseBuilder
window_observed window k b = observed_by (λ i. get_or window (3 - k + i) nan) k b

-- after a base was added at a quality: a byte that is no base is ignored, and a full builder stays as it is
unfoldable pub window_added : List (List Float) → ℕ → ℕ → ConsensusBaseBuilder → ConsensusBaseBuilder
window_added rows base q b =
    let k = lane_of_byte base in
    if eqb k no_lane || is_full b then b
    else window_observed (get_or rows (entry_of q) []) k b

-- after observations in their order, base and quality in turn; a byte left over is none
unfoldable pub all_added : List (List Float) → ConsensusBaseBuilder → List ℕ → ConsensusBaseBuilder
all_added rows b [] = b
all_added rows b (base ∷ []) = b
all_added rows b (base ∷ q ∷ r) = all_added rows (window_added rows base q b) r
