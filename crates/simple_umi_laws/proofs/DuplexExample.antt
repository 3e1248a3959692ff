-- An example of two strands, computed: at the defaults an observation adds two logarithms, by which C, C and G give C. Assumes nothing.
use Rattle.std.specs.Prelude.{Ok}
use Rattle.std.specs.List.{list_any}
use mathlib.Core.Path.{◌≡◌, refl, sym, ◌∙◌, ap}
use mathlib.Core.Bool.{true, false}
use mathlib.Core.List.{List, [], ◌∷◌, map}
use Prim.Native.Nat.{ℕ, ◌≤◌}
use borrow.Author.Tests.{le-ltb, le-leb}
use lib.Ieee.{add, sub, div, neg, lt, le, eq, is_nan, of_bits}
use lib.ListN.{length}
use Rattle.float.specs.Methods.{abs_of}
use Rattle.lent_bytes.specs.Buffer.{written}
use Rattle.string_set.specs.Readers.{byte, front, many}
use Rattle.string_set.specs.StringSet.{string, string_set, read_set}
use Rattle.words.specs.Lists.{listed}
use Rattle.tie_rules.specs.Lanes.{lanes, lane_of_byte, base_of}
use Rattle.tie_rules.specs.Scan.{scan}
use Rattle.tie_rules.specs.Ties.{fgbio_tie, fgbio_taken, fgbio_step, fgbio_unique_max_index, not_minus_infinity, unique_max_index_with}
use Rattle.rate_tables.specs.declared.adjusted.AdjustedEntry.{AdjustedEntry}
use Rattle.lane_sums.specs.Observation.{moved_by, value_of, count_of}
use Rattle.base_builder.specs.Builder.{total, cleared, new_at, reset_of, observed, is_full, added_by}
use Rattle.umi_column.specs.Dna.{to_ascii_uppercase, is_dna_base}
use Rattle.umi_column.specs.Verdicts.{is_mixed, verdict_of}
use Rattle.umi_column.specs.Calls.{added_all, named_byte}
use Rattle.umi_rows.specs.Rows.{differs_from}
use Rattle.simple_consensus.specs.Strings.{columns_of, alike, is_family}
use Rattle.simple_consensus.specs.Verdicts.{family_verdict, consensus_verdict}
use Rattle.umi_groups.specs.Found.{Found}
use Rattle.simple_consensus.specs.Consensus.{caller_at, default_caller, with_builder, builder_at, consensus_byte, family_found, first_found, found, consensus_of}
use Rattle.simple_umi.specs.Duplex.{ends_in, strand_of, duplex_of, pairing}
use Rattle.umi_groups.specs.Found.{room_for}
use Rattle.simple_umi.specs.Answers.{duplex_in}
use Rattle.umi_family.specs.Family.{bytes_by}
use Rattle.simple_umi_laws.specs.DuplexExample.{example_set, Example}
use Rattle.simple_consensus.proofs.Groups.{bytes_by_lem}
use Rattle.simple_umi_laws.proofs.DefaultEntry.{right, wrong, correct_entry, error_entry}
use Rattle.simple_umi_laws.proofs.DuplexLaws.{duplex}

abbrev entry : AdjustedEntry
entry = record { correct = right; error_per_alt = wrong }

-- by them AAA gives A, and CCG gives C
abbrev columns : List (List ℕ)
columns = (65 ∷ 65 ∷ 65 ∷ []) ∷ (67 ∷ 67 ∷ 71 ∷ []) ∷ []

named : bytes_by entry (new_at 90) columns ≡ 65 ∷ 67 ∷ []
unfolding add sub div neg lt le eq is_nan of_bits abs_of named_byte is_dna_base to_ascii_uppercase added_all added_by is_full total observed moved_by value_of count_of lanes lane_of_byte base_of reset_of cleared new_at unique_max_index_with fgbio_unique_max_index not_minus_infinity scan fgbio_taken fgbio_step fgbio_tie
named = refl

bytes : map (consensus_byte default_caller) columns ≡ 65 ∷ 67 ∷ []
unfolding caller_at
bytes = sym (bytes_by_lem default_caller entry (sym correct_entry) (sym error_entry) columns) ∙ named

-- ---- the four strings, and those of each strand
abbrev strings : List (List ℕ)
strings = (47 ∷ 65 ∷ []) ∷ (65 ∷ 67 ∷ 47 ∷ 66 ∷ []) ∷ (65 ∷ 67 ∷ 47 ∷ 66 ∷ []) ∷ (65 ∷ 71 ∷ 47 ∷ 66 ∷ []) ∷ []

abbrev strand_b : List (List ℕ)
strand_b = (65 ∷ 67 ∷ []) ∷ (65 ∷ 67 ∷ []) ∷ (65 ∷ 71 ∷ []) ∷ []

set_read : read_set example_set ≡ Ok strings
unfolding read_set string_set string many byte front
set_read = refl

strand_a : strand_of 65 strings ≡ [] ∷ []
unfolding strand_of ends_in
strand_a = refl

strand_b_lem : strand_of 66 strings ≡ strand_b
unfolding strand_of ends_in
strand_b_lem = refl

-- ---- what each gives
abbrev found_a : Found
found_a = record { text = []; had_errors = false; builder = default_caller.builder }

abbrev found_b : Found
found_b = record { text = 65 ∷ 67 ∷ []; had_errors = true; builder = builder_at default_caller (67 ∷ 67 ∷ 71 ∷ []) }

said_a : consensus_of default_caller ([] ∷ []) ≡ Ok found_a
unfolding consensus_verdict is_family alike found first_found
said_a = refl

sound_b : consensus_verdict strand_b ≡ Ok tt
unfolding consensus_verdict is_family alike family_verdict columns_of listed verdict_of is_mixed is_dna_base to_ascii_uppercase
sound_b = refl

found_b_lem : found default_caller strand_b ≡ found_b
unfolding is_family alike found family_found columns_of listed
found_b_lem = ap (λ (t : List ℕ). record { text = t; had_errors = list_any (differs_from t) strand_b; builder = found_b.builder }) bytes

said_b : consensus_of (with_builder found_a.builder default_caller) strand_b ≡ Ok found_b
unfolding with_builder
said_b = rw (sound_b, found_b_lem)

both : duplex_of default_caller strings ≡ Ok (pairing found_a found_b (65 ∷ 67 ∷ []))
both = (duplex default_caller strings).b_string found_a (rw strand_a said_a) found_b (rw strand_b_lem said_b) refl

module _ (out : List ℕ) where
  fits : 2 ≤ length out → duplex_in default_caller example_set out ≡ Ok (pairing found_a found_b (65 ∷ 67 ∷ []))
  unfolding duplex_in room_for
  fits h = rw (set_read, both, le-ltb (length out) 2 h)

  pub example : Example out
  unfolding written
  example = record { answer = λ h. rw (fits h); text = λ h. rw (fits h, le-leb 2 (length out) h) }
