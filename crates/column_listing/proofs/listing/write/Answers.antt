-- `write`: a file that is refused, and the text with the consensus of its strings. Assumes nothing.
use mathlib.Core.Path.{sym, ◌∙◌}
use Rattle.std.proofs.lemmas.Result.{err_from_is_err_and}
use Rattle.judged_file.proofs.Judged.{said_refused}
use Rattle.column_calls.specs.Callers.{called_by}
use Rattle.column_listing.specs.Listing.{listed_file}
use Rattle.column_listing.specs.Answers.{listed_in}
use Rattle.column_listing.proofs.Texts.{text_said, room_buffer}
use Rattle.column_listing.proofs.listing.write.Goals as goal

pub returns-in_err-judged : goal.returns-in_err-judged
unfolding listed_in listed_file
returns-in_err-judged c =
    let p = err_from_is_err_and c.from_residual.result c.from_residual.ensures.1 in
    let e = said_refused _ _ c.judge.result c.judge.ensures.judged c.in_err-judged.field-0.0 c.in_err-judged.was in
    record { reply = rw (p.1, p.2, e); lent = rw e }

pub invariant_of-listed : goal.invariant_of-listed
invariant_of-listed c =
    let t = text_said c.args.file.now c.judge.result c.judge.ensures.judged c.judge.ensures.short c.in_ok-judged.judged c.in_ok-judged.was (called_by c.new-caller.result)
    c.text.result.now c.new-caller.ensures c.text.ensures in
    record { few = t.few; longest = t.most }

pub returns : goal.returns
unfolding listed_in
returns c =
    let t = text_said c.args.file.now c.judge.result c.judge.ensures.judged c.judge.ensures.short c.in_ok-judged.judged c.in_ok-judged.was (called_by c.new-caller.result)
    c.text.result.now c.new-caller.ensures c.text.ensures in
    record { reply = rw (t.is, c.put_whole.ensures.reply); lent = rw t.is (c.put_whole.ensures.lent ∙ sym (room_buffer _ _)) }
