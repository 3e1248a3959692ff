use Rattle.std.proofs.Common.{◌≡◌, ◌∙◌, ℕ, List, true, refl, ap}
use Rattle.std.specs.List.{list_any}
use Rattle.words.proofs.Cases.{test}
use Rattle.refusals.specs.Refusals.{number_in}
use Rattle.refusals.specs.Result.{Verdict}
use Rattle.umi_rows.specs.Rows.{RowsFit, fitting, rows_at, is_high}
use Rattle.umi_rows.proofs.RowLoops.{fit_so}
use Rattle.umi_verdicts.specs.FamilyVerdicts.{verdict_within, verdict_at, verdict_number_at}
use Rattle.umi_verdicts.proofs.verdicts.family_verdict.Goals as goal

-- a verdict on strings that lie in the set, with its number
record Said (w : ℕ) (s ps : List ℕ) (v : Verdict) : Type 0 where
  verdict : v ≡ verdict_at w s ps
  number : number_in v ≡ verdict_number_at w s ps

said : (w : ℕ) (s ps : List ℕ) (v : Verdict) → RowsFit w s ps → v ≡ verdict_within w s ps → Said w s ps v
unfolding verdict_at verdict_within verdict_number_at
said w s ps v fit e =
    let within : fitting w s ps ≡ true = fit_so w s ps fit in
    let number : number_in (verdict_within w s ps) ≡ verdict_number_at w s ps =
    rw within (test (list_any (list_any is_high) (rows_at w s ps)) (λ k. rw k) (λ k. rw k)) in
    record { verdict = rw within e; number = ap number_in e ∙ number }

pub returns-in-Some : goal.returns-in-Some
returns-in-Some c =
    let f = c.in-Some.family in
    let same = c.in-Some.ensures.same in
    let t = rw (same.0, same.1, same.2) at (said f.width f.set.now f.places.now _ f.fit c.verdict_within.ensures) in
    record { verdict = t.verdict; number = t.number }

pub returns-in-None : goal.returns-in-None
unfolding verdict_at verdict_number_at
returns-in-None c = record { verdict = rw (← c.in-None.ensures.fit) refl; number = rw (← c.in-None.ensures.fit) refl }
