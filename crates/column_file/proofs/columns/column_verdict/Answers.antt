-- `column_verdict`: the observations still to come decide, at each turn. Assumes nothing.
use mathlib.Core.Path.{◌≡◌, refl, sym, ◌∙◌}
use native.Mathlib.Omega.{arith}
use Rattle.std.specs.Prelude.{Err, Ok}
use Rattle.refusals.specs.declared.Refusal.TheVariants.{AbsentQuality}
use Rattle.column_file.specs.Reading.{column_verdict}
use Rattle.column_file.specs.Places.{observations_in}
use Rattle.column_file.proofs.Front.{verdict_cut}
use Rattle.column_file.proofs.columns.column_verdict.Goals as goal

pub returns-then-any_absent : goal.returns-then-any_absent
returns-then-any_absent c =
    let (block, after, size) = c.in-Some.ensures.cases in
    let here : column_verdict (observations_in c.in-Some.block.now) ≡ Err AbsentQuality = rw c.if-any_absent.true at c.any_absent.ensures in
    sym (verdict_cut 32 64 c.loop-block.rest.now refl (omega (arith, size)) ∙ rw (← block, here)) ∙ c.loop-block.invariant

pub loop-block-preserved : goal.loop-block-preserved
loop-block-preserved c =
    let (block, after, size) = c.in-Some.ensures.cases in
    let fine : column_verdict (observations_in c.in-Some.block.now) ≡ Ok tt = rw c.if-any_absent.false at c.any_absent.ensures in
    sym (verdict_cut 32 64 c.loop-block.rest.now refl (omega (arith, size)) ∙ rw (← block, fine, ← after)) ∙ c.loop-block.invariant
