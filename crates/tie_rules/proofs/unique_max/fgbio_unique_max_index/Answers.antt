-- `fgbio_unique_max_index`: the lane that fgbio's scan ends with. Assumes nothing.
use Rattle.std.proofs.Common.{Some, None, rules, sym, ◌∙◌}
use Rattle.tie_rules.specs.Ties.{fgbio_step}
use Rattle.tie_rules.proofs.Named.{fgbio_answer}
use Rattle.tie_rules.proofs.unique_max.fgbio_unique_max_index.Goals as goal

pub returns-in_err-scan : goal.returns-in_err-scan
returns-in_err-scan c =
    let e = c.scan.ensures fgbio_step (λ s k x t h. search rules) in
    let a = fgbio_answer c.args.likelihoods None (sym c.in_err-scan.was ∙ e) in
    rw c.from_residual.ensures (record { answer = a.answer; lane = a.lane; inside = a.inside })

pub returns : goal.returns
returns c =
    let e = c.scan.ensures fgbio_step (λ s k x t h. search rules) in
    let a = fgbio_answer c.args.likelihoods (Some c.in_ok-scan.field-0) (sym c.in_ok-scan.was ∙ e) in
    record { answer = a.answer; lane = a.lane; inside = a.inside }
