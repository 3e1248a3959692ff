-- As it is run; `verdict_same` (simple_consensus/proofs/Groups) joins it to `family_verdict`: what a family is refused for.
use Rattle.std.specs.List.{list_any}
use Rattle.std.specs.Prelude.{List, ℕ, Err}
use Rattle.std.specs.Prelude.{if◌then◌else◌}
use Rattle.refusals.specs.declared.Refusal.TheVariants.{CutOff, NotAscii}
use Rattle.refusals.specs.Refusals.{number_in}
use Rattle.refusals.specs.Result.{first_refused, Verdict}
use Rattle.umi_column.specs.Verdicts.{verdict_of}
use Rattle.umi_rows.specs.Rows.{fitting, rows_at, row_columns_at, is_high}

-- of strings that lie in the set: a byte of 128 or more in one of them, or else the first faulty column
unfoldable pub verdict_within : ℕ → List ℕ → List ℕ → Verdict
verdict_within w s ps =
    if list_any (list_any is_high) (rows_at w s ps) then Err NotAscii
    else first_refused verdict_of (row_columns_at w s ps)

-- of any. What is said of strings that do not lie in the set, and of no places at all, is free, as SCOPE 4 has no such list: here it is 2
unfoldable pub verdict_at : ℕ → List ℕ → List ℕ → Verdict
verdict_at w s ps =
    if fitting w s ps then verdict_within w s ps
    else Err CutOff

-- its number: 7, that of the first faulty column, or 0 where nothing is refused; and 2 where it is free
unfoldable pub verdict_number_at : ℕ → List ℕ → List ℕ → ℕ
verdict_number_at w s ps =
    if fitting w s ps then (if list_any (list_any is_high) (rows_at w s ps) then 7 else number_in (first_refused verdict_of (row_columns_at w s ps)))
    else 2
