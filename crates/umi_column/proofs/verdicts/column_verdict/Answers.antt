use Rattle.std.proofs.Common.{Ok, sym, ◌∙◌}
use Rattle.umi_column.proofs.ColumnVerdicts.{Said, said_unlike, said_dna, said_mixed, said_other}
use Rattle.umi_column.proofs.verdicts.column_verdict.Goals as goal
use Rattle.umi_column.proofs.verdicts.column_verdict.Goals.{else-not-is_dna_base-via-then-not-is_dna_base+else-any_dna, else-not-is_dna_base-via-else-not-is_dna_base}

pub returns-then-any_unlike : goal.returns-then-any_unlike
returns-then-any_unlike c =
    let s = said_unlike _ _ c.byte_at-first.ensures c.if-any_unlike.ensures in
    record { verdict = s.verdict; number = s.number }

pub returns-then-any_dna : goal.returns-then-any_dna
returns-then-any_dna c =
    let s = said_mixed _ _ c.byte_at-first.ensures c.if-any_unlike.ensures (sym c.is_dna_base.ensures ∙ c.if-not-is_dna_base.true) (sym c.any_dna.ensures ∙ c.if-any_dna.true) in
    record { verdict = s.verdict; number = s.number }

pub returns : goal.returns
returns c =
    let s : Said c.args.column.now (Ok tt) = elim c.else-not-is_dna_base.branch [
      | else-not-is_dna_base-via-then-not-is_dna_base+else-any_dna w ↦ said_other _ _ c.byte_at-first.ensures c.if-any_unlike.ensures (sym w.any_dna.ensures ∙ w.if-any_dna.false)
      | else-not-is_dna_base-via-else-not-is_dna_base w ↦ said_dna _ _ c.byte_at-first.ensures c.if-any_unlike.ensures (sym c.is_dna_base.ensures ∙ w.if-not-is_dna_base.false)
    ] in
    record { verdict = s.verdict; number = s.number }
