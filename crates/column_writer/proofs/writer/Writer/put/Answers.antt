-- `put`: each condition in its order, and the part written. Assumes nothing.
use mathlib.Core.Path.{refl, sym, ◌∙◌}
use native.Mathlib.Omega.{arith}
use borrow.Author.Tests.{leb-true, leb-false}
use Rattle.lent_bytes.proofs.Buffer.{short_written_at}
use Rattle.std.proofs.lemmas.Result.{err_from_is_err_and}
use Rattle.column_writer.proofs.Said.{said, not_in_turn, is_too_long, part_refused, no_room, part_put}
use Rattle.column_writer.proofs.writer.Writer.put.Goals as goal

pub returns-then-not-in_turn : goal.returns-then-not-in_turn
returns-then-not-in_turn c =
    let a = c.args in
    said a.self a.kind a.part.now a.file.now _ _ _ (not_in_turn a.self a.kind a.part.now a.file.now (sym c.if-not-in_turn.ensures)) refl refl

pub returns-then-saturating_add-gt-LONGEST_FILE : goal.returns-then-saturating_add-gt-LONGEST_FILE
returns-then-saturating_add-gt-LONGEST_FILE c =
    let a = c.args in
    let long = is_too_long a.self a.kind a.part.now a.file.now (sym c.if-not-in_turn.ensures) (omega arith) in
    said a.self a.kind a.part.now a.file.now _ _ _ long refl refl

pub returns-in_err-stage : goal.returns-in_err-stage
returns-in_err-stage c =
    let a = c.args in
    let p = err_from_is_err_and c.from_residual.result c.from_residual.ensures.1 in
    let refused = part_refused a.self a.kind a.part.now a.file.now (sym c.if-not-in_turn.ensures) (omega arith) _ (sym c.in_err-stage.ensures) in
    rw (p.1, p.2) (said a.self a.kind a.part.now a.file.now _ _ _ refused refl refl)

pub returns-then-not-write_at : goal.returns-then-not-write_at
returns-then-not-write_at c =
    let a = c.args in
    let short = leb-false _ _ (sym c.if-not-write_at.ensures.reply) in
    let none = no_room a.self a.kind a.part.now a.file.now (sym c.if-not-in_turn.ensures) (omega arith) _ (sym c.in_ok-stage.ensures) short in
    said a.self a.kind a.part.now a.file.now _ _ _ none refl (c.write_at.ensures.lent ∙ sym (short_written_at a.self.written a.part.now a.file.now short))

pub overflow_add-written : goal.overflow_add-written
overflow_add-written c = omega arith

pub returns : goal.returns
returns c =
    let a = c.args in
    let put = part_put a.self a.kind a.part.now a.file.now (sym c.if-not-in_turn.ensures) (omega arith) _ (sym c.in_ok-stage.ensures) (leb-true _ _ (sym c.if-not-write_at.ensures.reply)) in
    said a.self a.kind a.part.now a.file.now _ _ _ put refl c.write_at.ensures.lent
