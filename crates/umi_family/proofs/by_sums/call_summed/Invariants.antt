use Rattle.std.proofs.Common.{◌≡◌, take}
use Rattle.umi_rows.specs.Rows.{row_columns_at}
use Rattle.umi_family.specs.Family.{bytes_summed}
use Rattle.umi_family.proofs.by_sums.call_summed.Given as goal

-- the places passed hold their columns' bytes
abbrev pub invariant-loop-at : goal.invariant-loop-at
invariant-loop-at l =
    take l.at l.text ≡ take l.at (bytes_summed l.window l.rule (row_columns_at l.family.width l.family.set.now l.family.places.now))
