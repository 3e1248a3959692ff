-- `try_unanimous_fast_path`: where no lane is alone there is no reply. Assumes nothing.
use Rattle.std.proofs.Common.{sym, arith}
use Rattle.tie_rules.specs.Lanes.{no_lane}
use Rattle.unanimous_shortcut.proofs.Sole.{no_sole_reply}
use Rattle.unanimous_shortcut.proofs.unanimous.try_unanimous_fast_path.Goals as goal

pub returns-in_err-sole_lane : goal.returns-in_err-sole_lane
returns-in_err-sole_lane c =
    rw c.from_residual.ensures (sym (no_sole_reply c.args.tables.now c.args.likelihoods c.args.observations c.args.rule no_lane c.in_err-sole_lane.ensures.lane (omega arith)))
