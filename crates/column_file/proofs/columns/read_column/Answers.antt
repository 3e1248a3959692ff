-- `read_column`: too long, cut off, with bytes left, or as its observations are judged. Assumes nothing.
use mathlib.Core.Path.{◌≡◌}
use Prim.Native.Nat.{◌/◌}
use native.Mathlib.Omega.{arith}
use lib.ListN.{length}
use Rattle.std.proofs.lemmas.Result.{err_from_is_err_and}
use Rattle.string_set.proofs.Readers.{lone_long, lone_cut, lone_left, lone_all}
use Rattle.column_file.specs.Format.{column}
use Rattle.column_file.specs.Reading.{read_column}
use Rattle.column_file.specs.Places.{observations_in}
use Rattle.column_file.proofs.Numbers.{said}
use Rattle.column_file.proofs.columns.read_column.Goals as goal

pub returns-then-part-gt-LONGEST_FILE : goal.returns-then-part-gt-LONGEST_FILE
unfolding read_column
returns-then-part-gt-LONGEST_FILE c = said length _ _ (rw (lone_long column c.args.part.now c.if-part-gt-LONGEST_FILE.true))

pub returns-in_default : goal.returns-in_default
unfolding read_column
returns-in_default c = said length _ _ (rw (lone_cut column c.args.part.now (omega arith) c.in_default.ensures))

pub returns-then-not-is_empty : goal.returns-then-not-is_empty
unfolding read_column
returns-then-not-is_empty c = said length _ _ (rw (lone_left column c.args.part.now (omega arith) _ c.in-Some.ensures.0 c.if-not-is_empty.ensures))

pub returns-in_err-column_verdict : goal.returns-in_err-column_verdict
unfolding read_column
returns-in_err-column_verdict c =
    let p = err_from_is_err_and c.from_residual.result c.from_residual.ensures.1 in
    let all = lone_all column c.args.part.now (omega arith) _ c.in-Some.ensures.0 c.if-not-is_empty.ensures in
    said length _ _ (rw (p.1, p.2, all, ← c.in_err-column_verdict.ensures))

pub returns : goal.returns
unfolding read_column
returns c =
    let count : length c.in-Some.column.now / 2 ≡ length (observations_in c.in-Some.column.now) = omega (arith, c.in-Some.ensures.1) in
    let all = lone_all column c.args.part.now (omega arith) _ c.in-Some.ensures.0 c.if-not-is_empty.ensures in
    said length _ _ (rw (all, ← c.in_ok-column_verdict.ensures, count))
