-- `next`: none where there is none, or the column there, and then the others. Assumes nothing.
use mathlib.Core.Path.{◌∙◌}
use Prim.Native.Nat.{◌<◌}
use native.Mathlib.Omega.{arith}
use borrow.Author.Rules.{part_to_end}
use lib.ListN.{length}
use Rattle.std.proofs.Common.{rules}
use Rattle.column_file.proofs.ColumnParts.{columns_past}
use Rattle.column_file.proofs.ColumnWalk.{place-past}
use Rattle.column_file.proofs.Front.{none_at, columns_step}
use Rattle.column_file.proofs.columns.ColumnsIterator.next.Goals as goal

pub returns-in_err-get-clause-steps : goal.returns-in_err-get-clause-steps
returns-in_err-get-clause-steps c =
    let s = c.args.self.now in
    let past : length s.file.now < s.at = grind (arith, c.in_err-get.ensures.lookup.0) in
    let none = columns_past s.file.now s.at s.left (place-past _ _ (omega arith)) in
    rw c.from_residual.ensures (none, none)

pub returns-in_err-column-clause-steps : goal.returns-in_err-column-clause-steps
returns-in_err-column-clause-steps c =
    let s = c.args.self.now in
    let there = c.in_ok-get.ensures.lookup.0.2 ∙ part_to_end s.file.now s.at in
    let none = columns_past s.file.now s.at s.left (none_at _ _ (rw there at c.in_err-column.ensures)) in
    rw c.from_residual-in_err-column.ensures (none, none)

pub returns-clause-steps : goal.returns-clause-steps
returns-clause-steps c =
    let s = c.args.self.now in
    let there = c.in_ok-get.ensures.lookup.0.2 ∙ part_to_end s.file.now s.at in
    columns_step s.file.now s.at _ _ (rw there at c.in_ok-column.ensures.0) s.left _ c.if-self-eq0.false c.in_ok-column.ensures.1

pub returns-clause-goes : goal.returns-clause-goes
returns-clause-goes c =
    let s = c.args.self.now in
    let there = c.in_ok-get.ensures.lookup.0.2 ∙ part_to_end s.file.now s.at in
    let e = columns_step s.file.now s.at _ _ (rw there at c.in_ok-column.ensures.0) s.left _ c.if-self-eq0.false c.in_ok-column.ensures.1 in
    search (rules, e)
