-- `add_round`: a column more, and none. Assumes nothing.
use Rattle.std.proofs.Common.{◌≡◌, ℕ, ◌+◌, ◌%◌, ◌^◌, sym, ap, ◌∙◌, arith, rules}
use Rattle.column_file.specs.Places.{observations_in}
use Rattle.column_calls.specs.declared.columns.ColumnCall.{ColumnCall}
use Rattle.column_calls.specs.Callers.{called_by}
use Rattle.export_timing.specs.Amounts.{amount_of}
use Rattle.export_timing.proofs.Sums.{sum_more, sum_all, columns_next, columns_none}
use Rattle.export_timing.proofs.columns.add_round.Goals as goal

pub loop-column-init : goal.loop-column-init
loop-column-init c = rw c.into_iter-column-iterator.ensures.into_iter_gives (search rules)

pub loop-column-preserved : goal.loop-column-preserved
loop-column-preserved c =
    let step = rw c.in-Some.is at c.next.ensures.steps in
    let one = columns_next (called_by c.args.caller.now) step in
    let given : c.amount-total.result ≡ amount_of (called_by c.args.caller.now (observations_in c.in-Some.column.now)).call = c.amount-total.ensures ∙ ap (λ (x : ColumnCall). amount_of x.call) c.call.ensures in
    record {
      can_next = tt;
      is_finite = tt;
      added = sum_more c.loop-column.total c.amount-total.result _ ∙ ap (λ (n : ℕ). (c.loop-column.total + n) % 2 ^ 64) (rw given (sym one)) ∙ c.loop-column.invariant.added;
    }

pub returns : goal.returns
returns c =
    let step = rw c.in-None.is at c.next.ensures.steps in
    let none = columns_none (called_by c.args.caller.now) step.0 in
    sum_all c.loop-column.total _ (omega arith) none ∙ c.loop-column.invariant.added
