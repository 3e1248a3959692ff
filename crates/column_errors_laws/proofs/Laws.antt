-- The error sums of every file: refused as in the listing, and by the columns alone. Assumes nothing.
use Rattle.std.specs.List.{list_all}
use mathlib.Core.Path.{◌≡◌, refl, sym, ◌∙◌, ap}
use mathlib.Core.Bool.{true}
use mathlib.Core.List.{List, [], ◌∷◌, map}
use Prim.Native.Nat.{ℕ, ◌+◌, ◌^◌, ◌≤◌}
use native.Mathlib.Omega.{arith}
use borrow.Author.Tests.{lt-ltb}
use lib.Dec.{ltb}
use lib.ListN.{length}
use Rattle.lent_text.specs.Text.{decimal}
use Rattle.string_set.specs.Readers.{longest_file}
use Rattle.column_file.specs.Format.{Observation}
use Rattle.column_file.specs.Places.{columns_size}
use Rattle.column_file.proofs.Files.{columns_inside, file_size}
use Rattle.listing_lines.specs.Lines.{text_of}
use Rattle.column_listing.proofs.Texts.{refused_listing}
use Rattle.column_listing_laws.specs.Laws.{is_line}
use Rattle.column_listing_laws.proofs.LineLaws.{line_one, decimal_plain}
use Rattle.expected_errors.specs.Sums.{error_sum}
use Rattle.expected_errors.proofs.SumLaws.{sum_laws}
use Rattle.column_errors.specs.ErrorSums.{sum_line, sum_lines}
use Rattle.column_errors.proofs.Files.{sums_refused, sums_accepted, fits}
use Rattle.column_errors_laws.specs.Laws.{ErrorSumsLaws, ByColumns}

-- the lines joined one by one are the text of all
as_text : (cs : List (List Observation)) → sum_lines cs ≡ text_of (map sum_line cs)
unfolding sum_lines
as_text [] = refl
as_text (c ∷ cs) = rw (as_text cs)

sum_line_lem : (c : List Observation) → is_line (sum_line c) ≡ true
unfolding sum_line
sum_line_lem c = line_one (decimal (error_sum c) ∷ []) (decimal_plain (error_sum c), tt)

-- columns that a file can hold have few enough qualities each
all_exact : (cs : List (List Observation)) → columns_size cs ≤ longest_file → list_all (λ c. ltb (error_sum c + length c) (2 ^ 64)) cs ≡ true
unfolding columns_size
all_exact [] h = refl
all_exact (c ∷ cs) h = rw (lt-ltb (error_sum c + length c) (2 ^ 64) ((sum_laws c).exact (omega arith))) (all_exact cs (omega arith))

module _ (s : List ℕ) where
  pub error_sums_laws : ErrorSumsLaws s
  error_sums_laws = record {
    as_listed = λ r e. sums_refused s r e ∙ sym (refused_listing s r e);
    one_line = sum_line_lem;
    lines = λ f e. sums_accepted s f e ∙ as_text f.columns;
    exact = λ f e. all_exact f.columns (omega (arith, columns_inside s f e, file_size s f e));
    most = fits s;
  }

pub by_columns : ByColumns
by_columns s t f g e k h = sums_accepted s f e ∙ ap sum_lines h ∙ sym (sums_accepted t g k)
