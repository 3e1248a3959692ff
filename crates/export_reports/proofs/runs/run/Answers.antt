-- `run`: refused, too short, or all reports. Assumes nothing.
use Rattle.std.proofs.Common.{◌≡◌, ◌*◌, ◌^◌, ◌≤◌, ◌<◌, true, false, length, refl, sym, ◌∙◌, arith, rules}
use Rattle.lent_text.proofs.Printed.{printed_written}
use Rattle.export_reports.specs.Runs.{script_bytes, is_answered}
use Rattle.export_reports.proofs.Written.{bad_rule, bad_script, good_script, script_size, rule_unanswered, script_unanswered, short_unanswered, well_answered, nothing_said, too_short, all_said}
use Rattle.export_reports.proofs.runs.run.Goals as goal
use Rattle.export_reports.proofs.runs.run.Goals.{then-rule-gt1-via-then-rule-gt1, then-rule-gt1-via-else-rule-gt1+then-not-is_script}

pub returns-then-rule-gt1 : goal.returns-then-rule-gt1
returns-then-rule-gt1 g c =
    let said = script_bytes c.args.pre.0 c.args.post.0 c.args.rule c.args.script.now c.args.builder in
    let none =
    nothing_said said c.args.out.now
    (elim c.then-rule-gt1.branch [
      | then-rule-gt1-via-then-rule-gt1 w ↦ bad_rule _ _ _ _ _ w.if-rule-gt1.true
      | then-rule-gt1-via-else-rule-gt1+then-not-is_script w ↦ bad_script _ _ _ _ _ w.if-rule-gt1.false (sym w.is_script.ensures ∙ w.if-not-is_script.true)
    ]) in
    let unanswered : is_answered c.args.rule c.args.script.now said c.args.out.now ≡ false =
    elim c.then-rule-gt1.branch [
      | then-rule-gt1-via-then-rule-gt1 w ↦ rule_unanswered _ _ _ _ w.if-rule-gt1.true
      | then-rule-gt1-via-else-rule-gt1+then-not-is_script w ↦ script_unanswered _ _ _ _ w.if-rule-gt1.false (sym w.is_script.ensures ∙ w.if-not-is_script.true)
    ] in
    record { reply = none.0; some = sym unanswered; lent = none.1 }

pub returns-then-out-n : goal.returns-then-out-n
returns-then-out-n g c =
    let said = script_bytes c.args.pre.0 c.args.post.0 c.args.rule c.args.script.now c.args.builder in
    let size = script_size c.args.pre.0 c.args.post.0 c.args.rule c.args.script.now c.args.builder c.if-rule-gt1.false (sym c.is_script.ensures ∙ c.if-not-is_script.false) in
    let short : length c.args.out.now < length said = omega (arith, size, c.questions_in-n.ensures, c.if-out-n.true) in
    let none = too_short said c.args.out.now short in
    let unanswered = short_unanswered c.args.rule c.args.script.now said c.args.out.now c.if-rule-gt1.false (sym c.is_script.ensures ∙ c.if-not-is_script.false) short in
    record { reply = none.0; some = sym unanswered; lent = none.1 }

pub overflow_mul-result : goal.overflow_mul-result
overflow_mul-result g c =
    let few : 91 * c.questions_in-n.result < 2 ^ 64 = omega arith in
    omega (arith, few)

pub returns : goal.returns
returns g c =
    let said = script_bytes c.args.pre.0 c.args.post.0 c.args.rule c.args.script.now c.args.builder in
    let good : c.is_script.result ≡ true = c.if-not-is_script.false in
    let whole = good_script c.args.pre.0 c.args.post.0 c.args.rule c.args.script.now c.args.builder c.if-rule-gt1.false (sym c.is_script.ensures ∙ good) in
    let size = script_size c.args.pre.0 c.args.post.0 c.args.rule c.args.script.now c.args.builder c.if-rule-gt1.false (sym c.is_script.ensures ∙ good) in
    let fits : length said ≤ length c.args.out.now = omega (arith, size, c.questions_in-n.ensures, c.if-out-n.false) in
    let printed = printed_written (rw (c.with_tie_rule.ensures, c.from.ensures, ← whole) at c.put_script.ensures) refl fits in
    record {
      reply = omega (arith, size, c.questions_in-n.ensures, all_said said c.args.out.now fits);
      some = sym (well_answered c.args.rule c.args.script.now said c.args.out.now c.if-rule-gt1.false (sym c.is_script.ensures ∙ good) fits);
      lent = search (rules, printed.1, c.put_script.ensures.buffer);
    }
