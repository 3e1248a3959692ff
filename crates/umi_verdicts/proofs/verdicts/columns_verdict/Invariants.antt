use Rattle.std.proofs.Common.{◌≡◌, drop}
use Rattle.refusals.specs.Result.{first_refused}
use Rattle.umi_column.specs.Verdicts.{verdict_of}
use Rattle.umi_rows.specs.Rows.{row_columns_at}
use Rattle.umi_verdicts.proofs.verdicts.columns_verdict.Given as goal

-- the columns left refuse what all of them refuse
abbrev pub invariant-loop-at : goal.invariant-loop-at
invariant-loop-at l =
    let columns = row_columns_at l.family.width l.family.set.now l.family.places.now in
    first_refused verdict_of (drop l.at columns) ≡ first_refused verdict_of columns
