-- `answer_sets`: cut off, too long for the buffer, or all written. Assumes nothing.
use Rattle.std.proofs.Common.{◌^◌, ◌≤◌, ◌<◌, length, refl, sym, arith, rules}
use Rattle.lent_text.proofs.Printed.{printed_written}
use Rattle.export_reports.proofs.Written.{nothing_said, too_short, all_said}
use Rattle.export_umi_sets.specs.Reading.{sets_in}
use Rattle.export_umi_sets.specs.Answers.{answers_to}
use Rattle.export_umi_sets.proofs.Walk.{short_unanswered, well_answered, walked_again}
use Rattle.export_umi_sets.proofs.sets.answer_sets.Goals as goal

pub returns-in_err-put_sets : goal.returns-in_err-put_sets
returns-in_err-put_sets c =
    let none = nothing_said (answers_to c.args.question c.args.caller (sets_in c.args.sets.now)) c.args.out.now (rw (c.in_err-put_sets.ensures.cut.0 refl)) in
    record { reply = rw c.from_residual.ensures none.0; some = rw (c.from_residual.ensures, c.in_err-put_sets.ensures.cut.0 refl); lent = none.1 }

pub returns-then-out-n : goal.returns-then-out-n
returns-then-out-n c =
    let said = answers_to c.args.question c.args.caller (sets_in c.args.sets.now) in
    let short : length c.args.out.now < length said = omega (arith, c.in_ok-put_sets.ensures.put.place, c.if-out-n.true) in
    let none = too_short said c.args.out.now short in
    record { reply = none.0; some = sym (short_unanswered _ said c.args.out.now short); lent = none.1 }

pub returns : goal.returns
returns c =
    let said = answers_to c.args.question c.args.caller (sets_in c.args.sets.now) in
    let few : length c.args.out.now < 2 ^ 63 = omega (arith, c.well_formed.1.1.1.0.1) in
    let fits : length said ≤ length c.args.out.now = omega (arith, c.in_ok-put_sets.ensures.put.place, c.if-out-n.false, few) in
    let put = walked_again _ c.put_sets-2.ensures.cut (λ e. cc (c.in_ok-put_sets.ensures.cut.1 e)) c.put_sets-2.ensures.put in
    let printed = printed_written put refl fits in
    record {
      reply = omega (arith, c.in_ok-put_sets.ensures.put.place, all_said said c.args.out.now fits);
      some = sym (well_answered _ said c.args.out.now (λ e. cc (c.in_ok-put_sets.ensures.cut.1 e)) fits);
      lent = search (rules, printed.1, put.buffer);
    }
