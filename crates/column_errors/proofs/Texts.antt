-- The lines of columns: one column at a time, how long they are, and that 64 bits are enough. Assumes nothing.
use mathlib.Core.Path.{◌≡◌, refl}
use mathlib.Core.List.{List, [], ◌∷◌, ◌++◌}
use Prim.Native.Nat.{ℕ, ◌*◌, ◌%◌, ◌^◌, ◌≤◌}
use native.Mathlib.Nat.{mod-lt}
use native.Mathlib.Omega.{arith}
use lib.ListN.{length, length-append}
use Rattle.lent_text.proofs.Decimal.{decimal_length}
use Rattle.string_set.specs.Readers.{longest_file}
use Rattle.column_file.specs.Format.{Observation}
use Rattle.column_file.specs.Places.{columns_at, columns_size}
use Rattle.column_file.proofs.ColumnParts.{columns_most}
use Rattle.expected_errors.specs.Table.{error_table}
use Rattle.expected_errors.specs.Sums.{errors_with, error_sum}
use Rattle.expected_errors.specs.Laws.{most_qualities}
use Rattle.expected_errors.proofs.SumLaws.{nothing_lost}
use Rattle.column_errors.specs.ErrorSums.{sum_line, sum_lines}
use Rattle.column_errors.specs.Tables.{sum_line_with, sum_lines_with}

-- the line of a column and those after it
pub lines_next : (table : List ℕ) (c : List Observation) (rest cs : List (List Observation)) → cs ≡ c ∷ rest
    → sum_lines_with table cs ≡ sum_line_with table c ++ sum_lines_with table rest
unfolding sum_lines_with
lines_next table c rest cs e = rw e

pub lines_none : (table : List ℕ) (cs : List (List Observation)) → cs ≡ [] → sum_lines_with table cs ≡ []
unfolding sum_lines_with
lines_none table cs e = rw e

-- ---- how long they are: a number of 64 bits has at most 20 digits

line_length : (table : List ℕ) (c : List Observation) → length (sum_line_with table c) ≤ 21
unfolding sum_line_with
line_length table c =
    let x = errors_with table c % 2 ^ 64 in
    simp length-append (omega (arith, decimal_length 20 x (omega arith) (omega (arith, mod-lt (errors_with table c) {m = 2 ^ 64} (omega arith)))))

pub lines_length : (table : List ℕ) (cs : List (List Observation)) → length (sum_lines_with table cs) ≤ 21 * length cs
unfolding sum_lines_with
lines_length table [] = omega arith
lines_length table (c ∷ cs) = rw (length-append) (omega (arith, line_length table c, lines_length table cs))

-- of n columns that are asked for
pub at_most : (table s : List ℕ) (n at : ℕ) → length (sum_lines_with table (columns_at s at n)) ≤ 21 * n
at_most table s n at = omega (arith, lines_length table (columns_at s at n), columns_most s n at)

-- ---- in 64 bits: columns of a file are short enough

line_with_lem : (c : List Observation) → length c ≤ most_qualities → sum_line_with error_table c ≡ sum_line c
unfolding sum_line_with sum_line error_sum
line_with_lem c h = rw (nothing_lost c h)

pub lines_with_lem : (cs : List (List Observation)) → columns_size cs ≤ longest_file → sum_lines_with error_table cs ≡ sum_lines cs
unfolding sum_lines_with sum_lines columns_size
lines_with_lem [] h = refl
lines_with_lem (c ∷ cs) h = rw (line_with_lem c (omega arith), lines_with_lem cs (omega arith))
