-- The text of a file, by what `read` says of it, and that its room holds it. Assumes nothing.
use Rattle.std.specs.Prelude.{Err, Ok}
use mathlib.Core.Path.{◌≡◌, refl, sym, ◌∙◌, subst}
use mathlib.Core.List.{List}
use Prim.Native.Nat.{ℕ, ◌≤◌, ◌<◌}
use native.Mathlib.Omega.{arith}
use lib.ListN.{length}
use Rattle.refusals.specs.declared.Refusal.{Refusal}
use Rattle.refusals.specs.declared.Refusal.TheVariants.{FileTooLong}
use Rattle.refusals.specs.Result.{Result, and_then, map_ok}
use Rattle.refusal_text.specs.RefusalText.{refusal_line, printed}
use Rattle.refusal_text.proofs.Lines.{refusal_length}
use Rattle.string_set.specs.Readers.{longest_file}
use Rattle.column_file.specs.declared.file.Places.{Places}
use Rattle.column_file.specs.Reading.{File, read_file}
use Rattle.column_file.specs.Places.{columns_at, places_of}
use Rattle.column_file.proofs.FileRead.{file_long}
use Rattle.column_file.proofs.Files.{two_each, columns_inside, file_size}
use Rattle.column_file.proofs.Readings.{FileAt, columns_read}
use Rattle.expected_errors.specs.Table.{error_table}
use Rattle.column_errors.specs.ErrorSums.{sum_lines, summed_file, error_sums_of, longest_sums}
use Rattle.column_errors.specs.Tables.{sum_lines_with}
use Rattle.column_errors.proofs.Texts.{lines_length, lines_with_lem}

module _ (s : List ℕ) where
  -- a file that is refused
  pub sums_refused : (r : Refusal) → read_file s ≡ Err r → error_sums_of s ≡ refusal_line r
  unfolding error_sums_of summed_file
  sums_refused r e = rw e

  -- one that is accepted
  pub sums_accepted : (f : File) → read_file s ≡ Ok f → error_sums_of s ≡ sum_lines f.columns
  unfolding error_sums_of summed_file
  sums_accepted f e = rw e

-- ---- what `read` says of it

module _ (s : List ℕ) where
  abbrev Said : Result Places → Type 0
  Said (Err r) = read_file s ≡ Err r
  Said (Ok p) = FileAt (read_file s) p

  by_file : (t : Result File) → read_file s ≡ t → Said (map_ok places_of t)
  by_file (Err r) h = h
  by_file (Ok f) h = record { file = f; is = h; places = refl }

  module _ (q : Result Places) (e : q ≡ map_ok places_of (read_file s)) where
    pub read_refused : (r : Refusal) → q ≡ Err r → read_file s ≡ Err r
    read_refused r h = subst Said (sym e ∙ h) (by_file (read_file s) refl)

    pub read_accepted : (p : Places) → q ≡ Ok p → FileAt (read_file s) p
    read_accepted p h = subst Said (sym e ∙ h) (by_file (read_file s) refl)

-- the text of an accepted file, by its places, is all lines of its columns
pub sums_there : (s : List ℕ) (p : Places) → FileAt (read_file s) p → sum_lines_with error_table (columns_at s p.columns p.count) ≡ error_sums_of s
sums_there s p a =
    let inside = columns_inside s a.file a.is in
    let size = file_size s a.file a.is in
    rw (columns_read s p a) (lines_with_lem a.file.columns (omega arith) ∙ sym (sums_accepted s a.file a.is))

-- ---- every text has room

by_result : (s : List ℕ) (t : Result File) → read_file s ≡ t → length (printed (and_then t (λ f. Ok (sum_lines f.columns)))) ≤ longest_sums
by_result s (Err r) e = omega (arith, refusal_length r)
by_result s (Ok f) e =
    let inside = columns_inside s f e in
    let size = file_size s f e in
    rw (← lines_with_lem f.columns (omega arith)) (omega (arith, lines_length error_table f.columns, two_each f.columns))

pub fits : (s : List ℕ) → length (error_sums_of s) ≤ longest_sums
unfolding error_sums_of summed_file
fits s = by_result s (read_file s) refl

-- all streams that are too long have the same text
pub long_alike : (s t : List ℕ) → longest_file < length s → longest_file < length t → error_sums_of s ≡ error_sums_of t
long_alike s t h k = sums_refused s FileTooLong (file_long s h) ∙ sym (sums_refused t FileTooLong (file_long t k))
