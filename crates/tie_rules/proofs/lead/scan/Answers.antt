-- `scan`: all four lanes. Assumes nothing.
use Rattle.std.proofs.Common.{◌≡◌, ap, ◌∙◌, arith}
use Rattle.tie_rules.specs.Scan.{scan}
use Rattle.tie_rules.proofs.lead.scan.Goals as goal

pub returns : goal.returns
returns g c = λ f h.
    let k : c.loop-k.k ≡ 4 = omega arith in
    c.loop-k.invariant.1 f h ∙ ap (scan f c.args.start c.args.likelihoods) k
