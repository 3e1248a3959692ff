-- `add_run`: a question, an event, and none. Assumes nothing.
use Rattle.std.proofs.Common.{ℕ, ◌+◌, ◌%◌, ◌^◌, sym, ap, ◌∙◌, arith, rules}
use Rattle.export_timing.specs.Times.{amounts}
use Rattle.export_timing.proofs.Sums.{sum_more, sum_all, question_next, event_next, amounts_none}
use Rattle.export_timing.proofs.scripts.add_run.Goals as goal

pub loop-item-init : goal.loop-item-init
loop-item-init c = rw c.into_iter-item-iterator.ensures.into_iter_gives (search rules)

pub loop-item-preserved-in-Question : goal.loop-item-preserved-in-Question
loop-item-preserved-in-Question c =
    let step = rw c.in-Some.is at c.next.ensures.steps in
    let next = question_next c.args.adjusted.now c.args.gaps.now c.loop-item.builder (rw c.in-Question.is at step) in
    let total = c.loop-item.total in
    record {
      can_next = tt;
      is_finite = tt;
      added = sum_more total c.amount_at-total.result _ ∙ ap (λ (n : ℕ). (total + n) % 2 ^ 64) (rw c.amount_at-total.ensures (sym next)) ∙ c.loop-item.invariant.added;
    }

pub loop-item-preserved-in-Ok : goal.loop-item-preserved-in-Ok
loop-item-preserved-in-Ok c =
    let step = rw c.in-Some.is at c.next.ensures.steps in
    let next = event_next c.args.adjusted.now c.args.gaps.now c.loop-item.builder c.in_default.not-Question step in
    let same = ap (amounts c.args.adjusted.now c.args.gaps.now _) c.in-Ok.ensures.builder ∙ sym next in
    record { can_next = tt; is_finite = tt; added = ap (λ (n : ℕ). (c.loop-item.total + n) % 2 ^ 64) same ∙ c.loop-item.invariant.added }

pub loop-item-preserved : goal.loop-item-preserved
loop-item-preserved c =
    let step = rw c.in-Some.is at c.next.ensures.steps in
    let next = event_next c.args.adjusted.now c.args.gaps.now c.loop-item.builder c.in_default.not-Question step in
    let same = ap (amounts c.args.adjusted.now c.args.gaps.now _) c.in_default-step.ensures.builder ∙ sym next in
    record { can_next = tt; is_finite = tt; added = ap (λ (n : ℕ). (c.loop-item.total + n) % 2 ^ 64) same ∙ c.loop-item.invariant.added }

pub returns : goal.returns
returns c =
    let step = rw c.in-None.is at c.next.ensures.steps in
    let none = amounts_none c.args.adjusted.now c.args.gaps.now c.loop-item.builder step.0 in
    sum_all c.loop-item.total _ (omega arith) none ∙ c.loop-item.invariant.added
