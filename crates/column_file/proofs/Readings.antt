-- A file by what `read` says of it: its settings and its columns. Assumes nothing.
use Rattle.std.specs.Prelude.{Err, Ok}
use mathlib.Core.Path.{◌≡◌, refl, ◌∙◌, ap}
use mathlib.Core.List.{List}
use Prim.Native.Nat.{ℕ}
use Rattle.refusals.specs.Result.{Result, map_ok}
use Rattle.column_file.specs.declared.file.Places.{Places}
use Rattle.column_file.specs.Reading.{File, read_file}
use Rattle.column_file.specs.Places.{columns_at, places_of}
use Rattle.column_file.proofs.FileLayout.{layout}

-- a file was accepted, and these are its places
pub record FileAt (t : Result File) (p : Places) : Type 0 where
  pub file : File
  pub is : t ≡ Ok file
  pub places : p ≡ places_of file

-- by what `read` ensures of a file that it reads
pub read_accepted : (t : Result File) (p : Places) → Ok p ≡ map_ok places_of t → FileAt t p
read_accepted (Err r) p e = absurd (cc)
read_accepted (Ok f) p e = record { file = f; is = refl; places = cc }

-- the columns are where the places say
pub columns_read : (s : List ℕ) (p : Places) (a : FileAt (read_file s) p) → columns_at s p.columns p.count ≡ a.file.columns
columns_read s p a = ap (λ (q : Places). columns_at s q.columns q.count) a.places ∙ (layout s a.file a.is).columns
