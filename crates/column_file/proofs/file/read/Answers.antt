-- `read`: too long, cut off, or as its settings and its columns are judged. Assumes nothing.
use mathlib.Core.Path.{sym, ◌∙◌}
use native.Mathlib.Omega.{arith}
use lib.ListN.{length}
use Rattle.std.proofs.lemmas.Result.{err_from_is_err_and}
use Rattle.column_file.specs.Places.{places_of}
use Rattle.column_file.proofs.Numbers.{said}
use Rattle.column_file.proofs.FileRead.{file_long, front_none, announced_taken, columns_taken, read_by, front_cut, front_strings, front_settings, front_faulty, front_whole}
use Rattle.column_file.proofs.file.read.Goals as goal

pub returns-then-file-gt-LONGEST_FILE : goal.returns-then-file-gt-LONGEST_FILE
returns-then-file-gt-LONGEST_FILE c = said places_of _ _ (rw (file_long c.args.file.now c.if-file-gt-LONGEST_FILE.true))

pub returns-in_default : goal.returns-in_default
returns-in_default c = said places_of _ _ (rw (front_none c.args.file.now (omega arith) c.in_default.ensures))

pub returns-in_default-walk_columns : goal.returns-in_default-walk_columns
returns-in_default-walk_columns c = said places_of _ _ (rw (front_cut c.args.file.now _ _ _ c.in-Some.ensures (omega arith) c.in_default-walk_columns.ensures))

pub returns-in_err-count_strings : goal.returns-in_err-count_strings
returns-in_err-count_strings c =
    let p = err_from_is_err_and c.from_residual.result c.from_residual.ensures.1 in
    let k = c.in-Some-walk_columns.ensures in
    said places_of _ _ (rw (p.1, p.2, front_strings c.args.file.now _ _ _ c.in-Some.ensures (omega arith) k.0 _ k.1 length _ c.in_err-count_strings.ensures.count))

pub returns-in_err-settings : goal.returns-in_err-settings
returns-in_err-settings c =
    let p = err_from_is_err_and c.from_residual-in_err-settings.result c.from_residual-in_err-settings.ensures.1 in
    let k = c.in-Some-walk_columns.ensures in
    let l = read_by length _ _ c.in_ok-count_strings.ensures.count in
    said places_of _ _ (rw (p.1, p.2, front_settings c.args.file.now _ _ _ c.in-Some.ensures (omega arith) k.0 _ k.1 l.0 l.1 _ (sym c.in_err-settings.ensures)))

pub returns-in_err-verdict : goal.returns-in_err-verdict
returns-in_err-verdict c =
    let p = err_from_is_err_and c.from_residual-in_err-verdict.result c.from_residual-in_err-verdict.ensures.1 in
    let k = c.in-Some-walk_columns.ensures in
    let l = read_by length _ _ c.in_ok-count_strings.ensures.count in
    let faulty = front_faulty c.args.file.now _ _ _ c.in-Some.ensures (omega arith) k.0 _ k.1 l.0 l.1 _ (sym c.in_ok-settings.ensures) _ (sym k.2 ∙ c.in_err-verdict.was) in
    said places_of _ _ (rw (p.1, p.2, faulty))

pub overflow_sub-result : goal.overflow_sub-result
overflow_sub-result c = omega (arith, announced_taken c.args.file.now _ _ _ c.in-Some.ensures)

pub overflow_sub-result-2 : goal.overflow_sub-result-2
overflow_sub-result-2 c =
    let k = c.in-Some-walk_columns.ensures in
    let t = columns_taken c.in-Some.columns.now _ _ _ k.1 in
    omega (arith, announced_taken c.args.file.now _ _ _ c.in-Some.ensures, t.0)

pub returns : goal.returns
returns c =
    let k = c.in-Some-walk_columns.ensures in
    let l = read_by length _ _ c.in_ok-count_strings.ensures.count in
    said places_of _ _ (front_whole c.args.file.now _ _ _ c.in-Some.ensures (omega arith) k.0 _ k.1 l.0 l.1 _ (sym c.in_ok-settings.ensures) (sym k.2 ∙ c.in_ok-verdict.was))
