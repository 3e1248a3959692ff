-- What is refused in a column.
use Rattle.refusals.specs.Result.{Verdict}
use Rattle.std.specs.List.{list_any}
use Rattle.std.specs.Prelude.{ℕ, Bool, not, ◌&&◌, List, eqb, Err, Ok}
use Rattle.std.specs.Prelude.{if◌then◌else◌}
use Rattle.words.specs.Lists.{byte_at}
use Rattle.refusals.specs.declared.Refusal.TheVariants.{UnlikeFirst, Mixed}
use Rattle.umi_column.specs.Dna.{is_dna_base}

-- a non-DNA byte unlike the first
abbrev pub is_unlike : ℕ → ℕ → Bool
is_unlike first x = not (is_dna_base x) && not (eqb x first)

-- DNA and non-DNA in one column
unfoldable pub is_mixed : List ℕ → Bool
is_mixed column = list_any is_dna_base column && list_any (λ x. not (is_dna_base x)) column

-- 8 before 9
unfoldable pub verdict_of : List ℕ → Verdict
verdict_of column =
    if list_any (is_unlike (byte_at column 0)) column then Err UnlikeFirst
    else if is_mixed column then Err Mixed
    else Ok tt

-- its number (SCOPE 7), 0 where nothing is refused
unfoldable pub verdict_number_of : List ℕ → ℕ
verdict_number_of column =
    if list_any (is_unlike (byte_at column 0)) column then 8
    else if is_mixed column then 9
    else 0
