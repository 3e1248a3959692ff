-- `fgbio_lead`: the lane that the scan ends with. Assumes nothing.
use Rattle.std.proofs.Common.{rules, ap, ◌∙◌}
use Rattle.tie_rules.specs.declared.lead.Lead.{Lead}
use Rattle.tie_rules.specs.Lead.{lead_step}
use Rattle.tie_rules.specs.Scan.{scan}
use Rattle.tie_rules.proofs.Named.{lead_answer}
use Rattle.tie_rules.proofs.lead.fgbio_lead.Goals as goal

pub returns : goal.returns
returns c =
    let xs = c.args.likelihoods in
    let e = c.scan.ensures lead_step (λ s k x t h. search rules) ∙ ap (λ (l : Lead). scan lead_step l xs 4) c.below_every.ensures in
    let a = lead_answer xs c.scan.result e in
    record { answer = a.answer; lane = a.lane; inside = a.inside }
