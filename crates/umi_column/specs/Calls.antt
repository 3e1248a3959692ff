-- The builder after a column, and the byte that the column gives.
use Rattle.std.specs.Prelude.{ℕ, List, [], ◌∷◌, map, Float}
use Rattle.std.specs.Prelude.{if◌then◌else◌}
use Rattle.words.specs.Lists.{byte_at}
use Rattle.rate_tables.specs.Adjusted.{adjusted_tables}
use Rattle.gap_tables.specs.Gaps.{gap_tables}
use Rattle.tie_rules.specs.Lanes.{base_of}
use Rattle.base_builder.specs.declared.builder.ConsensusBaseBuilder.{ConsensusBaseBuilder}
use Rattle.base_builder.specs.Builder.{added_by}
use Rattle.base_builder.specs.Calls.{call_of}
use Rattle.base_builder.specs.History.{Event, add, reset, run}
use Rattle.base_builder.specs.History.{ruled}
use Rattle.umi_column.specs.Dna.{is_dna_base}

-- what happens to the builder at a column: a reset, and then each byte is added at the quality; `add` ignores bytes that are no base
abbrev pub column_events : ℕ → List ℕ → List Event
column_events q column = reset ∷ map (λ x. add x q) column

-- the builder afterwards, with the tables of its post-UMI rate
unfoldable pub column_builder : ℕ → ℕ → List ℕ → ConsensusBaseBuilder → ConsensusBaseBuilder
column_builder post q column b = run (adjusted_tables post) (column_events q column) b

-- the column's byte: the base of the call, or, of non-DNA bytes, the first
unfoldable pub column_byte : ℕ → List ℕ → ConsensusBaseBuilder → ℕ
column_byte pre column after =
    if is_dna_base (byte_at column 0) then (call_of (gap_tables pre) after).base
    else byte_at column 0

-- the same two as the code has them: each byte added with the two logarithms of the quality
unfoldable pub added_all : Float → Float → List ℕ → ConsensusBaseBuilder → ConsensusBaseBuilder
added_all correct error [] b = b
added_all correct error (x ∷ xs) b = added_all correct error xs (added_by correct error x b)

-- and the base of the lane that the rule names
unfoldable pub named_byte : ConsensusBaseBuilder → ℕ → ℕ
named_byte after first =
    if is_dna_base first then base_of (ruled after)
    else first
