-- What holds of the error sums of every file, beside its listing.
use Rattle.std.specs.List.{list_all}
use Rattle.std.specs.Prelude.{◌≡◌, true, List, map, ℕ, ◌+◌, ◌^◌, ◌≤◌, ltb, length, Err, Ok}
use Rattle.refusals.specs.declared.Refusal.{Refusal}
use Rattle.column_file.specs.Format.{Observation}
use Rattle.column_file.specs.Reading.{File, read_file}
use Rattle.listing_lines.specs.Lines.{text_of}
use Rattle.column_listing.specs.Listing.{listing_of}
use Rattle.column_listing_laws.specs.Laws.{is_line}
use Rattle.expected_errors.specs.Sums.{error_sum}
use Rattle.column_errors.specs.ErrorSums.{sum_line, error_sums_of, longest_sums}

-- of any list of numbers, a file or not
pub record ErrorSumsLaws (s : List ℕ) : Type 0 where
  -- what reading refuses, by 1 to 4, prints as in the listing
  pub as_listed : (r : Refusal) → read_file s ≡ Err r → error_sums_of s ≡ listing_of s
  -- nothing else is refused: each column has a line, in file order
  pub lines : (f : File) → read_file s ≡ Ok f → error_sums_of s ≡ text_of (map sum_line f.columns)
  -- which is one line
  pub one_line : (c : List Observation) → is_line (sum_line c) ≡ true
  -- each column's sum, and the sum plus the number of its qualities, are exact in 64 bits
  pub exact : (f : File) → read_file s ≡ Ok f → list_all (λ c. ltb (error_sum c + length c) (2 ^ 64)) f.columns ≡ true
  -- the program's room holds the text
  pub most : length (error_sums_of s) ≤ longest_sums

-- accepted files of the same columns have the same text, whatever their settings and strings
abbrev pub ByColumns : Type 0
ByColumns = (s t : List ℕ) (f g : File) → read_file s ≡ Ok f → read_file t ≡ Ok g → f.columns ≡ g.columns → error_sums_of s ≡ error_sums_of t
