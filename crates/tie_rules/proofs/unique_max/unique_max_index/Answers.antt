-- `unique_max_index`: the lane that the scan ends with, where it is finite and no other ties with it. Assumes nothing.
use mathlib.Core.Logic.{inl, inr}
use lib.Ieee.Scale.{finite}
use Rattle.std.proofs.Common.{◌≡◌, rules, sym, ap, ◌∙◌, false, ◌&&◌}
use Rattle.std.specs.Float.{float_is_finite}
use Rattle.words.proofs.Cases.{and-false}
use Rattle.tie_rules.specs.declared.lead.Lead.{Lead}
use Rattle.tie_rules.specs.declared.tie_rule.TieRule.TheVariants.{UlpRelative}
use Rattle.tie_rules.specs.Scan.{scan}
use Rattle.tie_rules.specs.Ties.{ulp_step, untied}
use Rattle.tie_rules.proofs.Named.{ulp_answer, ulp_none}
use Rattle.tie_rules.proofs.unique_max.unique_max_index.Goals as goal
use Rattle.tie_rules.proofs.unique_max.unique_max_index.Goals.{else-is_finite-via-then-is_finite+else-none_ties, else-is_finite-via-else-is_finite}

pub returns-in_err-i : goal.returns-in_err-i
returns-in_err-i c =
    let e = c.scan-lead.ensures ulp_step (λ s k x t h. search rules) ∙ ap (λ (l : Lead). scan ulp_step l c.args.likelihoods 4) c.below_every.ensures in
    let a = ulp_none c.args.likelihoods c.scan-lead.result e (inl c.in_err-i.was) in
    rw c.from_residual.ensures (record { answer = a.answer; lane = a.lane; inside = a.inside })

pub returns-then-none_ties : goal.returns-then-none_ties
unfolding float_is_finite
returns-then-none_ties c =
    let e = c.scan-lead.ensures ulp_step (λ s k x t h. search rules) ∙ ap (λ (l : Lead). scan ulp_step l c.args.likelihoods 4) c.below_every.ensures in
    let a = ulp_answer c.args.likelihoods c.scan-lead.result e c.in_ok-i.i c.in_ok-i.was (sym c.is_finite.ensures.value ∙ c.if-is_finite.true) (sym c.none_ties.ensures ∙ c.if-none_ties.true) in
    record { answer = a.answer; lane = a.lane; inside = a.inside }

pub returns : goal.returns
unfolding float_is_finite
returns c =
    let e = c.scan-lead.ensures ulp_step (λ s k x t h. search rules) ∙ ap (λ (l : Lead). scan ulp_step l c.args.likelihoods 4) c.below_every.ensures in
    let l = c.scan-lead.result in
    let i = c.in_ok-i.i in
    let refuted : (finite l.best && untied UlpRelative c.args.likelihoods i l.best) ≡ false = elim c.else-is_finite.branch [
      | else-is_finite-via-then-is_finite+else-none_ties w ↦ rw (← w.none_ties.ensures, w.if-none_ties.false) (and-false (finite l.best))
      | else-is_finite-via-else-is_finite w ↦ rw (← c.is_finite.ensures.value, w.if-is_finite.false)
    ] in
    let a = ulp_none c.args.likelihoods l e (inr (rw c.in_ok-i.was refuted)) in
    record { answer = a.answer; lane = a.lane; inside = a.inside }
