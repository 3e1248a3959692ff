-- `exp_row`: the rows of the code are those of the definition, computed. Assumes nothing.
use Rattle.std.proofs.Common.{◌≡◌, ℕ, min, map, refl, arith}
use Rattle.std.specs.List.{range_with_len}
use lib.Ieee.{of_bits, neg}
use Rattle.elementary_tables.specs.declared.exp_table.TheConstants.{EXP_ROWS}
use Rattle.elementary_tables.specs.ExpTable.{exp_row_of}
use Rattle.elementary_tables.proofs.Rows.{row_is}
use Rattle.elementary_tables.proofs.exp_table.exp_row.Goals as goal

rows : EXP_ROWS ≡ map exp_row_of (range_with_len 0 128)
unfolding exp_row_of of_bits neg
rows = refl

held : (j : ℕ) → exp_row_of (min j 127) ≡ exp_row_of j
unfolding exp_row_of
held j = let e : min (min j 127) 127 ≡ min j 127 = omega arith in rw e

pub returns : goal.returns
returns c = rw c.min.ensures (row_is exp_row_of held EXP_ROWS rows c.args.j _)
