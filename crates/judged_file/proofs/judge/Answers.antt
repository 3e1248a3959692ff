-- `judge`: a file that is refused, one whose strings are, and what is found in the others. Assumes nothing.
use Rattle.std.specs.Prelude.{Ok}
use mathlib.Core.Path.{sym, ◌∙◌, ap}
use native.Mathlib.Omega.{arith}
use borrow.Author.Rules.{part_to_end}
use Rattle.std.proofs.lemmas.Result.{err_from_is_err_and}
use Rattle.refusals.specs.Refusals.{number_in}
use Rattle.refusals.proofs.Numbers.{number_in-map_ok}
use Rattle.simple_umi.specs.declared.umi_caller.FlaggedConsensus.{FlaggedConsensus}
use Rattle.column_file.specs.Reading.{read_file}
use Rattle.column_file.proofs.Files.{strings_inside}
use Rattle.column_file.proofs.Readings.{FileAt, read_accepted}
use Rattle.judged_file.proofs.Judged.{said_refused, said_accepted, file_refused, strings_refused, strings_found}
use Rattle.judged_file.proofs.judge.Goals as goal

pub returns-in_err-places : goal.returns-in_err-places
returns-in_err-places c =
    let p = err_from_is_err_and c.from_residual.result c.from_residual.ensures.1 in
    let e = file_refused c.args.file.now _ (said_refused _ _ c.read.result c.read.ensures.reading c.in_err-places.field-0.0 c.in_err-places.was) in
    record { judged = rw (p.1, p.2, e); short = rw p.1 tt; number = rw (p.1, p.2, e) }

pub slice_bounds-strings-count : goal.slice_bounds-strings-count
slice_bounds-strings-count c = strings_inside c.args.file.now c.in_ok-places.places (read_accepted _ _ (sym c.in_ok-places.was ∙ c.read.ensures.reading))

pub slice_bounds-strings-start : goal.slice_bounds-strings-start
slice_bounds-strings-start c = strings_inside c.args.file.now c.in_ok-places.places (read_accepted _ _ (sym c.in_ok-places.was ∙ c.read.ensures.reading))

pub returns-in_err-consensus : goal.returns-in_err-consensus
returns-in_err-consensus c =
    let s = c.args.file.now in
    let p = err_from_is_err_and c.from_residual-in_err-consensus.result c.from_residual-in_err-consensus.ensures.1 in
    let a : FileAt (read_file s) c.in_ok-places.places = read_accepted _ _ (sym c.in_ok-places.was ∙ c.read.ensures.reading) in
    let e = strings_refused s c.in_ok-places.places a _ _ (part_to_end s c.in_ok-places.places.strings) c.default.ensures (c.consensus.ensures.fits (omega arith)) _
    (said_refused _ _ c.consensus.result c.consensus.ensures.answer c.in_err-consensus.field-0.0 c.in_err-consensus.was) in
    record { judged = rw (p.1, p.2, e); short = rw p.1 tt; number = rw (p.1, p.2, e) }

pub returns : goal.returns
returns c =
    let s = c.args.file.now in
    let a : FileAt (read_file s) c.in_ok-places.places = read_accepted _ _ (sym c.in_ok-places.was ∙ c.read.ensures.reading) in
    let u = said_accepted _ _ c.consensus.result c.consensus.ensures.answer c.in_ok-consensus.consensus c.in_ok-consensus.was in
    let e = strings_found s c.in_ok-places.places a _ _ (part_to_end s c.in_ok-places.places.strings) c.default.ensures (c.consensus.ensures.fits (omega arith)) c.consensus.new.out u.value u.is c.consensus.ensures.lent in
    let same = ap (λ (g : FlaggedConsensus). Ok (record { places = c.in_ok-places.places; text = c.consensus.new.out; length = g.length; had_errors = g.had_errors })) u.gives ∙ e in
    record { judged = same; short = rw c.in_ok-consensus.was at c.consensus.ensures.short; number = ap number_in same ∙ number_in-map_ok _ _ }
