-- The consensus of a list of strings.
use Rattle.std.specs.List.{list_any}
use Rattle.std.specs.Prelude.{ℕ, not, List, map, length}
use Rattle.std.specs.Prelude.{if◌then◌else◌}
use Rattle.words.specs.Lists.{last_or}
use Rattle.refusals.specs.Result.{Result, judged}
use Rattle.base_builder.specs.declared.builder.ConsensusBaseBuilder.{ConsensusBaseBuilder}
use Rattle.base_builder.specs.Builder.{new_at}
use Rattle.umi_column.specs.Calls.{column_builder, column_byte}
use Rattle.umi_rows.specs.Rows.{differs_from}
use Rattle.umi_groups.specs.Found.{Found}
use Rattle.simple_consensus.specs.declared.caller.SimpleConsensusCaller.{SimpleConsensusCaller}
use Rattle.simple_consensus.specs.Strings.{first_of, columns_of, alike, is_family}
use Rattle.simple_consensus.specs.Verdicts.{consensus_verdict, umis_verdict, call_verdict}

-- a caller of two rates and a quality: a new builder of its rate, and no tables
unfoldable pub caller_at : ℕ → ℕ → ℕ → SimpleConsensusCaller
caller_at pre post q =
    record {
      builder = new_at pre;
      error_rate_pre_labeling = record { 0 = pre };
      error_rate_post_labeling = record { 0 = post };
      q_error = record { 0 = q };
    }

-- the default rates 90 and 90 and the quality 20
abbrev pub default_caller : SimpleConsensusCaller
default_caller = caller_at 90 90 20

-- the same caller with another builder
unfoldable pub with_builder : ConsensusBaseBuilder → SimpleConsensusCaller → SimpleConsensusCaller
with_builder b c =
    record {
      builder = b;
      error_rate_pre_labeling = c.error_rate_pre_labeling;
      error_rate_post_labeling = c.error_rate_post_labeling;
      q_error = c.q_error;
    }

-- the caller's builder after a column
abbrev pub builder_at : SimpleConsensusCaller → List ℕ → ConsensusBaseBuilder
builder_at c column = column_builder c.error_rate_post_labeling.0 c.q_error.0 column c.builder

-- the byte that the column gives
abbrev pub consensus_byte : SimpleConsensusCaller → List ℕ → ℕ
consensus_byte c column = column_byte c.error_rate_pre_labeling.0 column (builder_at c column)

-- of a family: each column's byte, and the builder as the last column leaves it
unfoldable pub family_found : SimpleConsensusCaller → ℕ → List (List ℕ) → Found
family_found c width strings =
    let text = map (consensus_byte c) (columns_of width strings) in
    record { text = text; had_errors = list_any (differs_from text) strings; builder = last_or c.builder (map (builder_at c) (columns_of width strings)) }

-- of other strings: the first one, with no error where there is at most one, and the builder as it was
unfoldable pub first_found : SimpleConsensusCaller → List (List ℕ) → Found
first_found c strings = record { text = first_of strings; had_errors = not (alike strings); builder = c.builder }

-- of any list of strings
unfoldable pub found : SimpleConsensusCaller → List (List ℕ) → Found
found c strings =
    if is_family strings then family_found c (length (first_of strings)) strings
    else first_found c strings

-- what `consensus` says of a list of strings
abbrev pub consensus_of : SimpleConsensusCaller → List (List ℕ) → Result Found
consensus_of c strings = judged (consensus_verdict strings) (found c strings)

-- what `consensus_umis` says, by any caller
abbrev pub umis_of : SimpleConsensusCaller → List (List ℕ) → Result Found
umis_of c strings = judged (umis_verdict strings) (found c strings)

-- what `call_consensus` says
abbrev pub call_consensus_of : SimpleConsensusCaller → List (List ℕ) → Result Found
call_consensus_of c strings = judged (call_verdict strings) (found c strings)
