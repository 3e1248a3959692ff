use Rattle.std.proofs.Common.{ℕ, ◌<◌}
use Rattle.umi_family.specs.Counts.{lane_counts}
use Rattle.umi_family.proofs.CountLoops.{Passed}
use Rattle.umi_family.proofs.counts.Counts.count_row.Given as goal

-- the places passed are counted, and the others are as before
abbrev pub invariant-loop-i : goal.invariant-loop-i
invariant-loop-i l = (k : ℕ) → k < 4 → Passed k l.row l.i (lane_counts l.initial.self k) (lane_counts l.self k)
