-- A column's call and counts by windows, gap tables and a first builder that are given, whatever they are.
use Rattle.std.specs.Prelude.{List, [], ◌∷◌, Float}
use Rattle.gap_tables.specs.declared.gaps.UnanimousGapTables.{UnanimousGapTables}
use Rattle.base_builder.specs.declared.builder.ConsensusBaseBuilder.{ConsensusBaseBuilder}
use Rattle.base_builder.specs.Calls.{call_of}
use Rattle.observation_windows.specs.Windows.{window_added}
use Rattle.column_file.specs.Format.{Observation}
use Rattle.column_calls.specs.declared.columns.ColumnCall.{ColumnCall}

-- the builder after a column's observations in their order
unfoldable pub builder_with : List (List Float) → ConsensusBaseBuilder → List Observation → ConsensusBaseBuilder
builder_with rows b [] = b
builder_with rows b (o ∷ os) = builder_with rows (window_added rows o.base o.quality b) os

-- its call and its counts
unfoldable pub column_call_with : List (List Float) → ConsensusBaseBuilder → UnanimousGapTables → List Observation → ColumnCall
column_call_with rows b g c = record { call = call_of g (builder_with rows b c); counts = (builder_with rows b c).observations }
