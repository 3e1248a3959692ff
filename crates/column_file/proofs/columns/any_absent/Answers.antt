-- `any_absent`: one among those passed, or else those still to come decide. Assumes nothing.
use mathlib.Core.Path.{sym, ap, ◌∙◌}
use Prim.Native.Nat.{◌*◌}
use native.Mathlib.Omega.{arith}
use Rattle.std.specs.Prelude.{Err, if◌then◌else◌}
use lib.ListN.{drop, length-drop}
use Rattle.refusals.specs.declared.Refusal.TheVariants.{AbsentQuality}
use Rattle.refusals.specs.Result.{Verdict}
use Rattle.column_file.proofs.Front.{verdict_next, if_either, verdict_none}
use Rattle.column_file.proofs.columns.any_absent.Goals as goal

pub loop-pair-preserved : goal.loop-pair-preserved
loop-pair-preserved c =
    let l = c.loop-pair in
    let cut = c.as_chunks.ensures in
    let next = verdict_next c.args.observations.now l.pair-index _ cut.front (omega (arith, cut.front_len)) in
    l.invariant ∙ ap (λ (v : Verdict). if l.absent then Err AbsentQuality else v) next ∙ sym (if_either l.absent _ _ _)

pub returns : goal.returns
returns c =
    let l = c.loop-pair in
    let s = c.args.observations.now in
    let end = c.as_chunks.ensures.front_len in
    l.invariant ∙ ap (λ (v : Verdict). if l.absent then Err AbsentQuality else v) (verdict_none (drop (2 * l.pair-index) s) (omega (arith, end, length-drop (2 * l.pair-index) s)))
