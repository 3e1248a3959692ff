-- A reset keeps a builder's rule and rate alone, and additions change neither: a column is the same from wherever it starts. Assumes nothing.
use mathlib.Core.Path.{◌≡◌, refl, ◌∙◌, ap}
use mathlib.Core.Bool.{◌||◌}
use mathlib.Core.List.{List, [], ◌∷◌, ◌++◌, map}
use Prim.Native.Nat.{ℕ, min}
use lib.Dec.{eqb}
use lib.Ieee.{Float, nan}
use lib.ListN.{get_or}
use Rattle.words.proofs.Cases.{choice}
use Rattle.words.specs.Lists.{last_or}
use Rattle.rate_tables.specs.declared.adjusted.AdjustedProbabilityTables.{AdjustedProbabilityTables}
use Rattle.rate_tables.specs.Adjusted.{adjusted_tables}
use Rattle.tie_rules.specs.Lanes.{no_lane, lane_of_byte}
use Rattle.base_builder.specs.declared.builder.ConsensusBaseBuilder.{ConsensusBaseBuilder}
use Rattle.base_builder.specs.Builder.{cleared, reset_of, observed, is_full, added_by, added}
use Rattle.base_builder.specs.History.{Event, add, step, run}
use Rattle.umi_column.specs.Calls.{column_events, column_builder}
use Rattle.simple_umi_laws.specs.Laws.{all_events}

-- one list of events after another
run-append : (t : AdjustedProbabilityTables) (es fs : List Event) (b : ConsensusBaseBuilder) → run t (es ++ fs) b ≡ run t fs (run t es b)
unfolding run
run-append t [] fs b = refl
run-append t (e ∷ es) fs b = run-append t es fs (step t e b)

added_reset : (correct error : Float) (base : ℕ) (b : ConsensusBaseBuilder) → reset_of (added_by correct error base b) ≡ reset_of b
unfolding added_by observed reset_of
added_reset correct error base b =
    let k = lane_of_byte base in
    choice (λ (x : ConsensusBaseBuilder). reset_of x ≡ reset_of b) (eqb k no_lane || is_full b) b (observed correct error k b) (λ h. refl) (λ h. refl)

additions_reset : (t : AdjustedProbabilityTables) (q : ℕ) (column : List ℕ) (b : ConsensusBaseBuilder)
    → reset_of (run t (map (λ x. add x q) column) b) ≡ reset_of b
unfolding run step added
additions_reset t q [] b = refl
additions_reset t q (x ∷ xs) b =
    additions_reset t q xs (step t (add x q) b) ∙ added_reset (get_or t.correct (min q 93) nan) (get_or t.error_per_alt (min q 93) nan) x b

module _ (post q : ℕ) where
  column_reset : (column : List ℕ) (b : ConsensusBaseBuilder) → reset_of (column_builder post q column b) ≡ reset_of b
  unfolding column_builder run step reset_of cleared
  column_reset column b = additions_reset (adjusted_tables post) q column (reset_of b)

  -- from two builders of one rule and rate
  pub column_start : (column : List ℕ) (a b : ConsensusBaseBuilder) → reset_of a ≡ reset_of b → column_builder post q column a ≡ column_builder post q column b
  unfolding column_builder run step
  column_start column a b e = ap (run (adjusted_tables post) (map (λ x. add x q) column)) e

  -- columns, one after another
  columns_more : (column : List ℕ) (columns : List (List ℕ)) (b : ConsensusBaseBuilder)
      → run (adjusted_tables post) (all_events q (column ∷ columns)) b ≡ run (adjusted_tables post) (all_events q columns) (column_builder post q column b)
  unfolding column_builder
  columns_more column columns b = run-append (adjusted_tables post) (column_events q column) (all_events q columns) b

  pub columns_reset : (columns : List (List ℕ)) (b : ConsensusBaseBuilder) → reset_of (run (adjusted_tables post) (all_events q columns) b) ≡ reset_of b
  unfolding run
  columns_reset [] b = refl
  columns_reset (column ∷ columns) b = rw (columns_more column columns b) (columns_reset columns (column_builder post q column b) ∙ column_reset column b)

  -- leave what the last one does from the first builder
  pub columns_last : (columns : List (List ℕ)) (a b : ConsensusBaseBuilder) → reset_of b ≡ reset_of a
      → run (adjusted_tables post) (all_events q columns) b ≡ last_or b (map (λ column. column_builder post q column a) columns)
  unfolding run
  columns_last [] a b e = refl
  columns_last (column ∷ columns) a b e =
      columns_more column columns b
      ∙ columns_last columns a (column_builder post q column b) (column_reset column b ∙ e)
      ∙ ap (λ (x : ConsensusBaseBuilder). last_or x (map (λ column. column_builder post q column a) columns)) (column_start column b a e)
