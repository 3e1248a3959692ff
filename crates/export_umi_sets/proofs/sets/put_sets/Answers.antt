-- `put_sets`: a set more, the sets are cut off, or none is left. Assumes nothing.
use Rattle.std.proofs.Common.{◌≡◌, ◌-◌, ◌<◌, [], ◌++◌, length, sym, ◌∙◌, arith, rules, tests}
use Rattle.lent_text.proofs.Printed.{print_then, print_none, printed_as}
use Rattle.string_set.proofs.Readers.{prepend_none}
use Rattle.export_umi_sets.specs.Reading.{sets_in}
use Rattle.export_umi_sets.specs.Answers.{set_bytes}
use Rattle.export_umi_sets.proofs.Walk.{turn, turn_cut, turn_end, cut_off, all_answered}
use Rattle.export_umi_sets.proofs.sets.put_sets.Goals as goal

pub loop-rest-init : goal.loop-rest-init
unfolding sets_in
loop-rest-init c =
    record { done = []; most = length c.args.sets.now; few = omega arith; printed = print_none c.args.p.now (omega arith) (omega (arith, c.requires)); left = prepend_none _ }

pub loop-rest-preserved : goal.loop-rest-preserved
loop-rest-preserved c =
    let l = c.loop-rest.invariant in
    let some : 0 < length c.loop-rest.rest.now = search (rules, tests) in
    record {
      done = l.done ++ set_bytes c.args.question c.loop-rest.current c.in_ok-set.set.now;
      most = l.most - 1;
      few = omega (arith, some, l.few, c.in_ok-set.ensures.fewer);
      printed = print_then l.printed c.put_set-current.ensures.put;
      left = rw c.put_set-current.ensures.caller (turn c.args.question c.loop-rest.current c.loop-rest.rest.now l.most l.done some l.few _ _ c.in_ok-set.ensures.set ∙ l.left);
    }

pub returns-in_err-set-clause-cut : goal.returns-in_err-set-clause-cut
returns-in_err-set-clause-cut c =
    let l = c.loop-rest.invariant in
    let some : 0 < length c.loop-rest.rest.now = search (rules, tests) in
    let cut = cut_off c.args.question c.args.caller [] (sets_in c.args.sets.now) (sym l.left ∙ turn_cut c.args.question c.loop-rest.current c.loop-rest.rest.now l.most l.done some l.few c.in_err-set.ensures.set) in
    (λ none. cut, λ e. search rules)

pub returns-clause-cut : goal.returns-clause-cut
returns-clause-cut c =
    let l = c.loop-rest.invariant in
    let none : length c.loop-rest.rest.now ≡ 0 = search (rules, tests) in
    let all = all_answered c.args.question c.args.caller l.done (sets_in c.args.sets.now) (sym l.left ∙ turn_end c.args.question c.loop-rest.current c.loop-rest.rest.now l.most l.done none) in
    (λ e. absurd cc, λ e. absurd (all.0 e))

pub returns-clause-put : goal.returns-clause-put
returns-clause-put c =
    let l = c.loop-rest.invariant in
    let none : length c.loop-rest.rest.now ≡ 0 = search (rules, tests) in
    let all = all_answered c.args.question c.args.caller l.done (sets_in c.args.sets.now) (sym l.left ∙ turn_end c.args.question c.loop-rest.current c.loop-rest.rest.now l.most l.done none) in
    printed_as l.printed (sym all.1)
