use Rattle.std.proofs.Common.{◌≡◌, length}
use Rattle.umi_rows.specs.Rows.{bytes_at}
use Rattle.umi_rows.proofs.ColumnLoops.{Gathered}
use Rattle.umi_rows.proofs.family.gather.Given as goal

abbrev pub invariant-loop-k : goal.invariant-loop-k
invariant-loop-k l = (length l.column ≡ 255) × Gathered (bytes_at l.at l.set l.places) l.column l.k
