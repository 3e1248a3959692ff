-- Where the parts of an accepted file lie, by its places: what other laws use of `layout`. Assumes nothing.
use Rattle.std.specs.Prelude.{Ok}
use mathlib.Core.Path.{◌≡◌}
use mathlib.Core.List.{List, [], ◌∷◌}
use Prim.Native.Nat.{ℕ, ◌+◌, ◌*◌, ◌≤◌}
use native.Mathlib.Omega.{arith}
use lib.ListN.{length, drop}
use Rattle.string_set.specs.Readers.{longest_file}
use Rattle.string_set.specs.StringSet.{read_set}
use Rattle.column_file.specs.declared.file.Places.{Places}
use Rattle.column_file.specs.Format.{Observation}
use Rattle.column_file.specs.Reading.{File, read_file}
use Rattle.column_file.specs.Places.{head_size, columns_size}
use Rattle.column_file.proofs.FileLayout.{layout}
use Rattle.column_file.proofs.Readings.{FileAt}

-- a column takes at least two bytes
pub two_each : (cs : List (List Observation)) → 2 * length cs ≤ columns_size cs
unfolding columns_size
two_each [] = omega arith
two_each (c ∷ cs) = omega (arith, two_each cs)

-- what an accepted file takes: with the six bytes before them its columns end within 65,536 bytes
module _ (s : List ℕ) (f : File) (e : read_file s ≡ Ok f) where
  pub columns_inside : head_size + columns_size f.columns ≤ length s
  columns_inside = (layout s f e).inside

  pub file_size : length s ≤ longest_file
  file_size = (layout s f e).size

  pub strings_there : read_set (drop (head_size + columns_size f.columns) s) ≡ Ok f.strings
  strings_there = (layout s f e).strings

-- the same by the places
module _ (s : List ℕ) (p : Places) (a : FileAt (read_file s) p) where
  pub few_columns : 2 * p.count + head_size ≤ longest_file
  few_columns =
      rw a.places (omega (arith, two_each a.file.columns, columns_inside s a.file a.is, file_size s a.file a.is))

  pub strings_inside : p.strings ≤ length s
  strings_inside = rw a.places (columns_inside s a.file a.is)

  pub strings_read : read_set (drop p.strings s) ≡ Ok a.file.strings
  strings_read = rw a.places (strings_there s a.file a.is)
