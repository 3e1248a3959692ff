use Rattle.std.proofs.Common.{ℕ, ◌<◌, length}
use Rattle.umi_family.specs.Counts.{lane_counts}
use Rattle.umi_family.proofs.CountLoops.{Done}
use Rattle.umi_family.proofs.leads.call_counted.Given as goal

-- with those of the strings left, the counts are the columns'
abbrev pub invariant-loop-row : goal.invariant-loop-row
invariant-loop-row l =
    (i : ℕ) → i < 4 → Done i l.family.width l.family.set.now l.family.places.now (length l.yielded) (lane_counts l.counts i)
