-- As it is run; `group_said` (simple_consensus/proofs/Groups) joins it to `consensus_of`: what a family's columns give.
use Rattle.std.specs.List.{list_any}
use Rattle.std.specs.Prelude.{false, List, map, ℕ, Float, length}
use Rattle.std.specs.Prelude.{if◌then◌else◌}
use Rattle.words.specs.Lists.{last_or, byte_at}
use Rattle.tie_rules.specs.declared.tie_rule.TieRule.{TieRule}
use Rattle.rate_tables.specs.declared.adjusted.AdjustedEntry.{AdjustedEntry}
use Rattle.base_builder.specs.declared.builder.ConsensusBaseBuilder.{ConsensusBaseBuilder}
use Rattle.base_builder.specs.Builder.{reset_of}
use Rattle.umi_column.specs.Calls.{added_all, named_byte}
use Rattle.umi_column.specs.Sums.{no_sums, summed_all, byte_by}
use Rattle.umi_family.specs.declared.calls.Called.{Called}
use Rattle.umi_rows.specs.Rows.{fitting, rows_at, row_columns_at, differs_from}

-- the builder after a column, from one after a reset
abbrev pub builder_by : AdjustedEntry → ConsensusBaseBuilder → List ℕ → ConsensusBaseBuilder
builder_by e b column = added_all e.correct e.error_per_alt column (reset_of b)

-- a byte for each column
abbrev pub bytes_by : AdjustedEntry → ConsensusBaseBuilder → List (List ℕ) → List ℕ
bytes_by e b columns = map (λ column. named_byte (builder_by e b column) (byte_at column 0)) columns

-- the byte of a column by the sums of its lanes alone, whose values lie in a window
abbrev pub byte_summed : List Float → TieRule → List ℕ → ℕ
byte_summed window rule column = byte_by (summed_all window column no_sums).likelihoods rule (byte_at column 0)

-- a byte for each column, by its sums
abbrev pub bytes_summed : List Float → TieRule → List (List ℕ) → List ℕ
bytes_summed window rule columns = map (byte_summed window rule) columns

-- the builder after the last
abbrev pub last_by : AdjustedEntry → ConsensusBaseBuilder → List (List ℕ) → ConsensusBaseBuilder
last_by e b columns = last_or b (map (builder_by e b) columns)

-- the text afterwards: a byte for each column of strings that lie in the set. For others it is free: here it is left as it was
unfoldable pub text_at : AdjustedEntry → ConsensusBaseBuilder → List ℕ → List ℕ → List ℕ → List ℕ
text_at e b s ps text =
    if fitting (length text) s ps then bytes_by e b (row_columns_at (length text) s ps)
    else text

-- whether one of them differs from it, and the builder after the last column. For others both are free: here false, and the builder as it was
unfoldable pub called_at : AdjustedEntry → ConsensusBaseBuilder → List ℕ → List ℕ → List ℕ → Called
called_at e b s ps text =
    if fitting (length text) s ps then
    record {
      had_errors = list_any (differs_from (text_at e b s ps text)) (rows_at (length text) s ps);
      builder = last_by e b (row_columns_at (length text) s ps);
    }
    else record { had_errors = false; builder = b }
