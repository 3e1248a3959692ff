-- The worked inputs, computed with the lane that the tie rule names, since the tables of a call are long to compute. Assumes nothing.
use mathlib.Core.Path.{◌≡◌, sym, ◌∙◌}
use mathlib.Core.List.{List}
use Prim.Native.Nat.{ℕ}
use lib.Dec.{T}
use lib.Ieee.{sub, div, le, is_nan, of_bits}
use Rattle.float.specs.Methods.{abs_of}
use Rattle.words.specs.Claims.{all}
use Rattle.words.specs.Lists.{byte_at}
use Rattle.words.specs.Lists.{listed}
use Rattle.tie_rules.specs.Lanes.{lanes, base_of, lane_of_byte}
use Rattle.tie_rules.specs.Scan.{scan}
use Rattle.tie_rules.specs.Ties.{fgbio_tie, fgbio_taken, fgbio_step, fgbio_unique_max_index, not_minus_infinity, unique_max_index_with}
use Rattle.lane_sums.specs.Observation.{moved_by, value_of, count_of}
use Rattle.base_builder.specs.Builder.{new_at, cleared, reset_of, total, is_full, observed, added_by}
use Rattle.umi_column.specs.Dna.{to_ascii_uppercase, is_dna_base}
use Rattle.umi_column.specs.Verdicts.{is_mixed, verdict_of}
use Rattle.umi_column.specs.Calls.{column_builder, column_byte, added_all, named_byte}
use Rattle.umi_column.proofs.Columns.{column_builder_lem, column_byte_lem}
use Rattle.string_set.specs.Readers.{byte, front, many}
use Rattle.string_set.specs.StringSet.{string, string_set, read_set}
use Rattle.simple_consensus.specs.Strings.{columns_of, alike, is_family}
use Rattle.simple_consensus.specs.Verdicts.{family_verdict, consensus_verdict, umis_verdict, call_verdict}
use Rattle.simple_consensus.specs.Consensus.{caller_at, family_found, first_found, found}
use Rattle.umi_groups.specs.Found.{room_for}
use Rattle.simple_consensus.specs.Answers.{call_consensus_in, consensus_umis_in}
use Rattle.simple_umi.specs.Answers.{consensus_in}
use Rattle.simple_umi_laws.specs.Examples.{gives, refuses, gives_none, claims}
use Rattle.simple_umi_laws.proofs.DefaultEntry.{right, wrong, correct_entry, error_entry}

-- a column's byte at the defaults, by the rule's lane
unfoldable lane_byte : List ℕ → ℕ
lane_byte column = named_byte (added_all right wrong column (reset_of (new_at 90))) (byte_at column 0)

lane_byte_lem : (column : List ℕ) → column_byte 90 column (column_builder 90 20 column (new_at 90)) ≡ lane_byte column
unfolding lane_byte
lane_byte_lem column = sym (column_byte_lem 90 90 20 column (new_at 90)) ∙ rw (← column_builder_lem 90 20 column (new_at 90), correct_entry, error_entry)

pub examples : T (all claims)
unfolding lane_byte named_byte added_all reset_of new_at cleared sub div le is_nan of_bits abs_of lanes base_of lane_of_byte fgbio_tie fgbio_taken fgbio_step scan fgbio_unique_max_index not_minus_infinity unique_max_index_with moved_by value_of count_of total is_full observed added_by to_ascii_uppercase is_dna_base listed is_mixed verdict_of byte front many string string_set read_set columns_of alike is_family family_verdict consensus_verdict umis_verdict call_verdict caller_at family_found first_found found room_for call_consensus_in consensus_in consensus_umis_in gives refuses gives_none
examples = simp lane_byte_lem tt
