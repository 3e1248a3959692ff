-- The two files, read and summed by computing; the listing of the second by its verdict. Assumes nothing.
use Rattle.std.specs.Prelude.{Err, Ok}
use mathlib.Core.Path.{◌≡◌, refl, ◌∙◌}
use mathlib.Core.List.{List, [], ◌∷◌}
use Prim.Native.Nat.{ℕ}
use native.Mathlib.Omega.{arith}
use Rattle.refusals.specs.declared.Refusal.TheVariants.{UnlikeFirst}
use Rattle.refusal_text.specs.RefusalText.{refusal_line}
use Rattle.words.specs.Lists.{listed}
use Rattle.lent_text.specs.Text.{digits, decimal}
use Rattle.lent_text.proofs.Decimal.{decimal_one, decimal_few}
use Rattle.string_set.specs.Readers.{byte, word, front, many}
use Rattle.string_set.specs.StringSet.{string, string_set}
use Rattle.column_file.specs.Format.{Observation, observation, column, settings, columns, sections}
use Rattle.column_file.specs.Reading.{File, settings_at, settings_of, observation_verdict, column_verdict, columns_verdict, file_of, read_file}
use Rattle.umi_column.specs.Dna.{is_dna_base, to_ascii_uppercase}
use Rattle.umi_column.specs.Verdicts.{is_mixed, verdict_of}
use Rattle.simple_consensus.specs.Strings.{columns_of, alike, is_family}
use Rattle.simple_consensus.specs.Verdicts.{family_verdict, consensus_verdict}
use Rattle.judged_file.specs.Judged.{judge_file}
use Rattle.column_listing.specs.Listing.{listed_file, listing_of}
use Rattle.expected_errors.specs.Table.{error_table}
use Rattle.expected_errors.specs.Sums.{errors_with, error_sum}
use Rattle.column_errors.specs.ErrorSums.{sum_line, sum_lines}
use Rattle.column_errors.proofs.Files.{sums_accepted}
use Rattle.column_errors_laws.specs.Samples.{sample, unlike, sample_text, Samples}

-- A, C and N at quality 20
abbrev second : List Observation
second = record { base = 65; quality = 20 } ∷ record { base = 67; quality = 20 } ∷ record { base = 78; quality = 20 } ∷ []

-- with these strings
abbrev file : List (List ℕ) → File
file strings = record { settings = settings_at 90 90 0; columns = [] ∷ second ∷ []; strings = strings }

abbrev ac_and_ag : List (List ℕ)
ac_and_ag = (65 ∷ 67 ∷ []) ∷ (65 ∷ 71 ∷ []) ∷ []

abbrev a_and_hyphen : List (List ℕ)
a_and_hyphen = (65 ∷ []) ∷ (45 ∷ []) ∷ []

sample_read : read_file sample ≡ Ok (file ac_and_ag)
unfolding read_file sections settings columns column observation string_set string byte word front many file_of settings_of columns_verdict column_verdict observation_verdict
sample_read = refl

unlike_read : read_file unlike ≡ Ok (file a_and_hyphen)
unfolding read_file sections settings columns column observation string_set string byte word front many file_of settings_of columns_verdict column_verdict observation_verdict
unlike_read = refl

-- of a number this large `decimal` itself takes too many steps
sum_digits : decimal 8444249301318 ≡ digits 13 8444249301318
sum_digits = decimal_few 13 8444249301318 (omega arith) (omega arith)

summed : sum_lines ([] ∷ second ∷ []) ≡ sample_text
unfolding sum_lines sum_line error_sum errors_with error_table digits
summed = rw (decimal_one 0 (omega arith), sum_digits)

unlike_verdict : consensus_verdict a_and_hyphen ≡ Err UnlikeFirst
unfolding consensus_verdict family_verdict is_family alike columns_of listed verdict_of is_mixed is_dna_base to_ascii_uppercase
unlike_verdict = refl

unlike_refused : listing_of unlike ≡ refusal_line UnlikeFirst
unfolding listing_of listed_file judge_file
unlike_refused = rw (unlike_read, unlike_verdict)

pub samples : Samples
samples = record {
  sample_sums = sums_accepted sample (file ac_and_ag) sample_read ∙ summed;
  unlike_listed = unlike_refused;
  unlike_sums = sums_accepted unlike (file a_and_hyphen) unlike_read ∙ summed;
}
