use Rattle.std.proofs.Common.{◌≡◌, refl, sym, ◌∙◌}
use Rattle.std.proofs.lemmas.Result.{err_from_is_err_and}
use Rattle.umi_groups.specs.Groups.{entry_at}
use Rattle.umi_groups.proofs.Groups.{family_refused, family_short, family_given}
use Rattle.umi_groups.proofs.group.family.Goals as goal

pub returns-in_err-family_verdict : goal.returns-in_err-family_verdict
returns-in_err-family_verdict c =
    let a = c.args in
    let said = c.family_verdict.ensures.verdict in
    let refused = family_refused (entry_at a.post.0 a.q.0) a.builder a.width a.strings.now.set.now a.strings.now.places.now a.out.now _ (sym said ∙ c.in_err-family_verdict.was) in
    let reply = err_from_is_err_and c.from_residual.result c.from_residual.ensures.1 in
    record { group = rw (refused, reply.1, reply.2) refl; lent = rw refused refl }

pub returns-then-out-width : goal.returns-then-out-width
returns-then-out-width c =
    let a = c.args in
    let said = c.family_verdict.ensures.verdict in
    let short = family_short (entry_at a.post.0 a.q.0) a.builder a.width a.strings.now.set.now a.strings.now.places.now a.out.now (sym said ∙ c.in_ok-family_verdict.was) c.if-out-width.true in
    record { group = rw short refl; lent = rw short refl }

pub returns : goal.returns
returns c =
    let a = c.args in
    let said = c.family_verdict.ensures.verdict in
    let entry : c.adjusted_entry-entry.result ≡ entry_at a.post.0 a.q.0 = c.adjusted_entry-entry.ensures in
    let called = rw entry at c.call_family-had_errors.ensures.called in
    let text = rw entry at c.call_family-had_errors.ensures.text in
    let given = family_given (entry_at a.post.0 a.q.0) a.builder a.width a.strings.now.set.now a.strings.now.places.now a.out.now (sym said ∙ c.in_ok-family_verdict.was) c.if-out-width.false c.call_family-had_errors.result called _ text in
    record { group = rw (given.0, ← given.1.0) refl; lent = rw given.0 given.1.1 }
