-- `read_settings`: too long, cut off, with bytes left, or as the settings are. Assumes nothing.
use native.Mathlib.Omega.{arith}
use Rattle.std.proofs.lemmas.Result.{err_from_is_err_and}
use Rattle.string_set.proofs.Readers.{lone_long, lone_cut, lone_left, lone_all}
use Rattle.column_file.specs.Format.{announced}
use Rattle.column_file.specs.Reading.{read_settings}
use Rattle.column_file.proofs.Numbers.{same_said}
use Rattle.column_file.proofs.settings.read_settings.Goals as goal

pub returns-then-part-gt-LONGEST_FILE : goal.returns-then-part-gt-LONGEST_FILE
unfolding read_settings
returns-then-part-gt-LONGEST_FILE c = same_said _ _ (rw (lone_long announced c.args.part.now c.if-part-gt-LONGEST_FILE.true))

pub returns-in_default : goal.returns-in_default
unfolding read_settings
returns-in_default c = same_said _ _ (rw (lone_cut announced c.args.part.now (omega arith) c.in_default.ensures))

pub returns-then-not-is_empty : goal.returns-then-not-is_empty
unfolding read_settings
returns-then-not-is_empty c = same_said _ _ (rw (lone_left announced c.args.part.now (omega arith) _ c.in-Some.ensures c.if-not-is_empty.ensures))

pub returns-in_err-of : goal.returns-in_err-of
unfolding read_settings
returns-in_err-of c =
    let p = err_from_is_err_and c.from_residual.result c.from_residual.ensures.1 in
    let all = lone_all announced c.args.part.now (omega arith) _ c.in-Some.ensures c.if-not-is_empty.ensures in
    same_said _ _ (rw (p.1, p.2, all, ← c.in_err-of.ensures))

pub returns : goal.returns
unfolding read_settings
returns c =
    let all = lone_all announced c.args.part.now (omega arith) _ c.in-Some.ensures c.if-not-is_empty.ensures in
    same_said _ _ (rw (all, ← c.in_ok-of.ensures))
