-- What is refused in a list of strings.
use Rattle.std.specs.List.{list_any}
use Rattle.std.specs.Prelude.{ℕ, List, length, Err, Ok}
use Rattle.std.specs.Prelude.{if◌then◌else◌}
use Rattle.words.specs.Lists.{is_empty}
use Rattle.refusals.specs.declared.Refusal.TheVariants.{NoStrings, LengthsDiffer, NotAscii}
use Rattle.refusals.specs.Result.{first_refused, Verdict}
use Rattle.umi_column.specs.Verdicts.{verdict_of}
use Rattle.umi_rows.specs.Rows.{is_high}
use Rattle.simple_consensus.specs.Strings.{first_of, columns_of, alike, is_family}

-- of strings of a width: 7 looks at all of them first, and then the first faulty column decides
unfoldable pub family_verdict : ℕ → List (List ℕ) → Verdict
family_verdict width strings =
    if list_any (list_any is_high) strings then Err NotAscii
    else first_refused verdict_of (columns_of width strings)

-- `consensus` refuses a family alone, by 7 to 9
unfoldable pub consensus_verdict : List (List ℕ) → Verdict
consensus_verdict strings =
    if is_family strings then family_verdict (length (first_of strings)) strings
    else Ok tt

-- `consensus_umis` also refuses unequal lengths, by 6
unfoldable pub umis_verdict : List (List ℕ) → Verdict
umis_verdict strings =
    if alike strings then consensus_verdict strings
    else Err LengthsDiffer

-- and `call_consensus` no strings at all, by 5
unfoldable pub call_verdict : List (List ℕ) → Verdict
call_verdict strings =
    if is_empty strings then Err NoStrings
    else umis_verdict strings
