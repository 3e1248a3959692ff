-- `column_at`: a column there, or none. Assumes nothing.
use mathlib.Core.Path.{◌≡◌, sym, ◌∙◌}
use Prim.Native.Nat.{◌/◌, ◌<◌}
use native.Mathlib.Omega.{arith}
use borrow.Author.Rules.{part_to_end}
use lib.ListN.{length}
use Rattle.column_file.specs.Places.{observations_in}
use Rattle.column_file.proofs.Front.{none_at, some_at, place_number}
use Rattle.column_file.proofs.ColumnWalk.{place-past}
use Rattle.column_file.proofs.columns.column_at.Goals as goal

pub returns-in_err-get : goal.returns-in_err-get
returns-in_err-get c =
    let past : length c.args.file.now < c.args.at = grind (arith, c.in_err-get.ensures.lookup.0) in
    let place = c.from_residual.ensures ∙ sym (place-past c.args.file.now c.args.at (omega arith)) in
    record { place = place; number = place_number c.args.file.now c.args.at place }

pub returns-in_err-column : goal.returns-in_err-column
returns-in_err-column c =
    let there = c.in_ok-get.ensures.lookup.0.2 ∙ part_to_end c.args.file.now c.args.at in
    let place = c.from_residual-in_err-column.ensures ∙ sym (none_at c.args.file.now c.args.at (rw there at c.in_err-column.ensures)) in
    record { place = place; number = place_number c.args.file.now c.args.at place }

pub returns-clause-place : goal.returns-clause-place
returns-clause-place c =
    let there = c.in_ok-get.ensures.lookup.0.2 ∙ part_to_end c.args.file.now c.args.at in
    let column = c.in_ok-column.column.now in
    let count : length column / 2 ≡ length (observations_in column) = omega (arith, c.in_ok-column.ensures.1) in
    rw count (sym (some_at _ _ _ _ (rw there at c.in_ok-column.ensures.0)))

pub returns-clause-number : goal.returns-clause-number
returns-clause-number c = place_number c.args.file.now c.args.at (returns-clause-place c)
