-- `list`: by what is written of the file. Assumes nothing.
use mathlib.Core.Path.{◌∙◌, ap}
use Rattle.std.proofs.lemmas.Result.{err_from_is_err_and}
use Rattle.refusals.specs.Refusals.{number_in}
use Rattle.refusals.proofs.Numbers.{number_in-map_ok}
use Rattle.judged_file.proofs.Judged.{said_refused}
use Rattle.column_listing.specs.Answers.{listed_in}
use Rattle.column_listing.proofs.Texts.{list_reply}
use Rattle.column_listing.proofs.listing.list.Goals as goal

pub returns-in_err-write : goal.returns-in_err-write
unfolding listed_in
returns-in_err-write c =
    let p = err_from_is_err_and c.from_residual.result c.from_residual.ensures.1 in
    let e = said_refused _ _ c.write.result c.write.ensures.reply c.in_err-write.field-0.0 c.in_err-write.was in
    record { answer = rw (p.1, p.2, e); lent = c.write.ensures.lent; number = rw (p.1, p.2, e) }

pub returns : goal.returns
returns c =
    let answer = c.ok_or.ensures.value ∙ list_reply _ _ c.write.new.out c.write.result c.write.ensures.reply c.in_ok-write.field-0 c.in_ok-write.was in
    record { answer = answer; lent = c.write.ensures.lent; number = ap number_in answer ∙ number_in-map_ok _ _ }
