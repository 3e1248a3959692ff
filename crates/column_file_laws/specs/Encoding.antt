-- Reading a file gives what it says, and what it says gives the file.
use Rattle.std.specs.List.{list_all}
use Rattle.std.specs.Prelude.{◌≡◌, Bool, true, List, ℕ, ◌≤◌, ltb, length, Ok}
use Rattle.refusals.specs.Result.{Result, Verdict}
use Rattle.string_set.specs.Readers.{longest_file}
use Rattle.string_set.specs.StringSet.{read_set}
use Rattle.column_file.specs.Reading.{column_verdict, columns_verdict, File, read_file, read_settings, read_column}
use Rattle.column_file.specs.Encoding.{announced_bytes, column_bytes, string_set_bytes, file_bytes}

-- a number that a byte holds
abbrev pub is_byte : ℕ → Bool
is_byte x = ltb x 256

-- s is the file that says f: at most 65,536 bytes, with no quality of 255
pub record InFormat (s : List ℕ) (f : File) : Type 0 where
  pub bytes : file_bytes f ≡ s
  pub size : length s ≤ longest_file
  pub qualities : columns_verdict f.columns ≡ Ok tt

-- bytes are accepted, with what they say, exactly where they have the format
pub record BothWays : Type 0 where
  -- what is accepted is the file that says so
  pub accepted_reads : (s : List ℕ) → list_all is_byte s ≡ true → (f : File) → read_file s ≡ Ok f → InFormat s f
  -- and no such file is refused or read otherwise
  pub never_refused : (s : List ℕ) (f : File) → InFormat s f → read_file s ≡ Ok f

-- a part alone: what is accepted is the part that says so, and no part of at most 65,536 bytes with a sound verdict is refused or read otherwise
pub record PartBothWays {A : Type 0} (read : List ℕ → Result A) (bytes : A → List ℕ) (verdict : A → Verdict) : Type 0 where
  pub accepted_reads : (s : List ℕ) → list_all is_byte s ≡ true → (a : A) → read s ≡ Ok a → (bytes a ≡ s) × (verdict a ≡ Ok tt)
  pub never_refused : (a : A) → length (bytes a) ≤ longest_file → verdict a ≡ Ok tt → read (bytes a) ≡ Ok a

-- each kind of part
pub record PartsBothWays : Type 0 where
  pub settings : PartBothWays read_settings (λ a. announced_bytes a.0 a.1) (λ a. Ok tt)
  pub column : PartBothWays read_column column_bytes column_verdict
  pub strings : PartBothWays read_set string_set_bytes (λ l. Ok tt)
