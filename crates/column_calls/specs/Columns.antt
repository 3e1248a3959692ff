-- The builder of a column of a file, its call and its counts.
use Rattle.std.specs.Prelude.{List, map}
use Rattle.gap_tables.specs.Gaps.{gap_tables}
use Rattle.lane_calls.specs.declared.call.Call.{Call}
use Rattle.base_builder.specs.declared.builder.ConsensusBaseBuilder.{ConsensusBaseBuilder}
use Rattle.base_builder.specs.Calls.{call_of}
use Rattle.base_builder.specs.History.{Event, add, after}
use Rattle.column_file.specs.declared.settings.Settings.{Settings}
use Rattle.column_file.specs.Format.{Observation}
use Rattle.column_calls.specs.declared.columns.ColumnCall.{ColumnCall}

-- an observation as what happens to a builder
abbrev pub event_of : Observation → Event
event_of o = add o.base o.quality

-- the builder of a column: a new one, after its observations in their order
unfoldable pub builder_of_column : Settings → List Observation → ConsensusBaseBuilder
builder_of_column g c = after g.error_rate_pre_umi.0 g.error_rate_post_umi.0 g.tie_rule (map event_of c)

-- its call
unfoldable pub column_call : Settings → List Observation → Call
column_call g c = call_of (gap_tables g.error_rate_pre_umi.0) (builder_of_column g c)

-- its call, and the counts of A, C, G and T
unfoldable pub called_column : Settings → List Observation → ColumnCall
called_column g c = record { call = column_call g c; counts = (builder_of_column g c).observations }
