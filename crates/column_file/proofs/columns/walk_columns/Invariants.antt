-- `walk_columns`: the columns passed and those still to read are the columns, and of those passed the first faulty observation decides, at each turn. Assumes nothing.
use mathlib.Core.Path.{◌≡◌}
use Rattle.string_set.proofs.Readers.{Passed}
use Rattle.column_file.specs.Format.{column}
use Rattle.column_file.specs.Reading.{columns_verdict}
use Rattle.column_file.proofs.columns.walk_columns.Given as goal

abbrev pub invariant-loop : goal.invariant-loop
invariant-loop l = (p : Passed column l.bytes l.n l.counter l.rest) × (l.verdict ≡ columns_verdict p.0)
