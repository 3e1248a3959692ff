use Rattle.std.proofs.Common.{◌≡◌, take}
use Rattle.tie_rules.specs.declared.tie_rule.TieRule.TheVariants.{FgbioCompat}
use Rattle.umi_rows.specs.Rows.{row_columns_at}
use Rattle.umi_family.specs.Family.{bytes_summed}
use Rattle.umi_family.proofs.leads.call_leads.Given as goal

-- the places passed hold their columns' bytes
abbrev pub invariant-loop-at : goal.invariant-loop-at
invariant-loop-at l =
    take l.at l.text ≡ take l.at (bytes_summed l.window FgbioCompat (row_columns_at l.family.width l.family.set.now l.family.places.now))
