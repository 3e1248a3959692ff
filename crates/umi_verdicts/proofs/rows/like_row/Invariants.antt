use Rattle.std.proofs.Common.{◌≡◌, ◌&&◌, drop}
use Rattle.umi_verdicts.specs.Likeness.{like_row}
use Rattle.umi_verdicts.proofs.rows.like_row.Given as goal

-- what the places passed say with what those left say is what all of them say
abbrev pub invariant-loop-i : goal.invariant-loop-i
invariant-loop-i l =
    (l.like && like_row (drop l.i l.first) (drop l.i l.row)) ≡ like_row l.first l.row
