use Rattle.std.proofs.Common.{◌≡◌, length, true, refl}
use Rattle.umi_rows.specs.Rows.{fitting}
use Rattle.umi_rows.proofs.RowLoops.{fit_so}
use Rattle.umi_family.specs.Family.{text_at, called_at}
use Rattle.umi_family.proofs.calls.call_family.Goals as goal

pub returns-in_default : goal.returns-in_default
unfolding called_at text_at
returns-in_default c = record { called = rw (← c.in_default.ensures.fit) refl; text = rw (← c.in_default.ensures.fit) refl }

pub returns : goal.returns
unfolding called_at text_at
returns c =
    let a = c.args in
    let f = c.in-Some.family in
    let same = c.in-Some.ensures.same in
    let within : fitting (length a.text.now) a.set.now a.places.now ≡ true = rw (same.0, same.1, same.2) at (fit_so f.width f.set.now f.places.now f.fit) in
    let errors = rw (c.call_columns-builder.ensures.text, same.0, same.1, same.2) at c.any_differs.ensures in
    let builder = rw (same.0, same.1, same.2) at c.call_columns-builder.ensures.builder in
    let text = rw (same.0, same.1, same.2) at c.call_columns-builder.ensures.text in
    record { called = rw (within, errors, builder) refl; text = rw within text }
