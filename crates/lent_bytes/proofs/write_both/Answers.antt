-- `write_both`: both parts fit, or neither is put there. Assumes nothing.
use mathlib.Core.Path.{◌∙◌, ap}
use native.Mathlib.Omega.{arith}
use lib.ListN.{length-append}
use Rattle.lent_bytes.specs.Buffer.{written_at}
use Rattle.lent_bytes.proofs.Buffer.{short_written, written_both}
use Rattle.lent_bytes.proofs.write_both.Goals as goal

pub returns-then-out-at-clause-lent : goal.returns-then-out-at-clause-lent
returns-then-out-at-clause-lent c = short_written _ _ (simp length-append (omega arith))

pub returns-clause-lent : goal.returns-clause-lent
returns-clause-lent c =
    c.write_at.ensures.lent
    ∙ ap (written_at _ c.args.second.now) c.write_front.ensures.lent
    ∙ written_both c.args.first.now c.args.second.now c.args.out.now (simp length-append (omega arith))
