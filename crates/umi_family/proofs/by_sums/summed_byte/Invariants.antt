use Rattle.std.proofs.Common.{◌≡◌, drop}
use Rattle.umi_column.specs.Sums.{no_sums, summed_all}
use Rattle.umi_rows.specs.Rows.{bytes_at}
use Rattle.umi_family.proofs.by_sums.summed_byte.Given as goal

-- what the bytes passed leave, and then those left, are the column's sums
abbrev pub invariant-loop-place : goal.invariant-loop-place
invariant-loop-place l =
    let column = bytes_at l.at l.family.set.now l.family.places.now in
    summed_all l.window (drop l.place-index column) l.sums ≡ summed_all l.window column no_sums
