-- With the windows and tables of a file's rates and a new builder at its settings, what is given says what the file's settings say. Assumes nothing.
use mathlib.Core.Path.{◌≡◌, refl, fun_ext}
use mathlib.Core.List.{List, [], ◌∷◌, map}
use Prim.Native.Nat.{ℕ}
use lib.Ieee.{Float}
use Rattle.rate_tables.specs.declared.adjusted.AdjustedProbabilityTables.{AdjustedProbabilityTables}
use Rattle.rate_tables.specs.Adjusted.{adjusted_tables}
use Rattle.gap_tables.specs.Gaps.{gap_tables}
use Rattle.base_builder.specs.declared.builder.ConsensusBaseBuilder.{ConsensusBaseBuilder}
use Rattle.base_builder.specs.Builder.{added, with_tie_rule}
use Rattle.base_builder.specs.History.{step, run, after}
use Rattle.observation_windows.specs.Windows.{windows_of, window_added, all_added}
use Rattle.observation_windows.proofs.Laws.{added_same}
use Rattle.column_file.specs.declared.settings.Settings.{Settings}
use Rattle.column_file.specs.Format.{Observation}
use Rattle.column_file.specs.Places.{observations_in}
use Rattle.column_calls.specs.Start.{start_of}
use Rattle.column_calls.specs.Columns.{event_of, builder_of_column, column_call, called_column}
use Rattle.column_calls.specs.Tables.{builder_with, column_call_with}

-- the rule that a builder has changes nothing
pub as_it_was : (b : ConsensusBaseBuilder) → with_tie_rule b.tie_rule b ≡ b
unfolding with_tie_rule
as_it_was b = refl

-- by any windows, a column's bytes add what its observations do
pub bytes_added : (rows : List (List Float)) (b : ConsensusBaseBuilder) (s : List ℕ) → all_added rows b s ≡ builder_with rows b (observations_in s)
unfolding all_added builder_with observations_in
bytes_added rows b [] = refl
bytes_added rows b (x ∷ []) = refl
bytes_added rows b (x ∷ q ∷ s) = bytes_added rows (window_added rows x q b) s

-- by the windows of any two tables, observations do what they do as a list of a builder's calls
pub windows_run : (t : AdjustedProbabilityTables) (b : ConsensusBaseBuilder) (c : List Observation) → builder_with (windows_of t) b c ≡ run t (map event_of c) b
unfolding builder_with run step
windows_run t b [] = refl
windows_run t b (o ∷ c) = rw (added_same t o.base o.quality b) (windows_run t (added t.correct t.error_per_alt o.base o.quality b) c)

-- what is called of each column
pub calls_with : (g : Settings) → column_call_with (windows_of (adjusted_tables g.error_rate_post_umi.0)) (start_of g) (gap_tables g.error_rate_pre_umi.0) ≡ called_column g
unfolding column_call_with called_column column_call builder_of_column after
calls_with g = fun_ext (λ c. rw (windows_run (adjusted_tables g.error_rate_post_umi.0) (start_of g) c))
