-- `none_ties`: what `all` tests of each lane is the claim on all four. Assumes nothing.
use Rattle.std.proofs.Common.{ℕ, refl, ◌∙◌, rules, tests, eqb, not, ◌||◌}
use Rattle.std.proofs.lemmas.Iterator.{YieldsList-from_range}
use Rattle.std.proofs.lemmas.Iterator.Search.{all_from_yields_List}
use Rattle.tie_rules.specs.Lanes.{lane}
use Rattle.tie_rules.specs.Ties.{ties_with, untied}
use Rattle.tie_rules.proofs.Lanes.{each_lane}
use Rattle.tie_rules.proofs.tie_rule.none_ties.Goals as goal

pub returns : goal.returns
unfolding untied
returns c =
    let apart = λ (j : ℕ). eqb c.args.i j || not (ties_with c.args.rule c.args.i c.args.m j (lane c.args.likelihoods j)) in
    all_from_yields_List apart _ _ _ c.all.ensures.ran (YieldsList-from_range 0 4 4 refl refl) (λ x b q k. search (rules, tests)) ∙ each_lane apart
