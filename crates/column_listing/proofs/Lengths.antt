-- How long a text can be. Assumes nothing.
use Rattle.std.specs.Prelude.{Ok}
use mathlib.Core.Path.{◌≡◌}
use mathlib.Core.Bool.{Bool, true, false, ◌&&◌}
use mathlib.Core.List.{List, [], ◌∷◌, ◌++◌, map, append-nil}
use Prim.Native.Nat.{ℕ, ◌+◌, ◌*◌, ◌≤◌, ◌<◌}
use native.Mathlib.Omega.{arith}
use borrow.Author.Tests.{leb-true, eqb-true}
use lib.Dec.{leb, eqb}
use lib.Ieee.Bits.{is_true}
use lib.ListN.{length, length-append}
use Rattle.words.proofs.Cases.{test, both}
use Rattle.lent_bytes.proofs.Joined.{joined_append}
use Rattle.lent_text.proofs.Decimal.{decimal_length}
use Rattle.tie_rules.specs.Lanes.{counted}
use Rattle.lane_calls.specs.declared.call.Call.{Call}
use Rattle.base_builder.specs.Builder.{total}
use Rattle.base_builder_laws.specs.GoodCalls.{is_called_base, is_call}
use Rattle.base_builder_laws.proofs.GoodCalls.{good_calls}
use Rattle.base_builder.specs.History.{after}
use Rattle.base_builder_laws.proofs.Laws.{laws}
use Rattle.umi_groups.specs.Found.{Found}
use Rattle.column_file.specs.declared.settings.Settings.{Settings}
use Rattle.column_file.specs.Format.{Observation}
use Rattle.column_file.specs.Reading.{File, read_file}
use Rattle.column_calls.specs.Columns.{event_of, builder_of_column, column_call}
use Rattle.listing_lines.specs.Lines.{header, line_of, column_line, column_lines, umi_line, text_of}
use Rattle.column_listing.specs.Listing.{lines_of}
use Rattle.column_file.proofs.Files.{two_each, columns_inside, file_size}

-- of a call's line, where its number is below 100,000, its quality below 100 and its counts together, the depth, a 32-bit number
pub line_length : (i : ℕ) (call : Call) (counts : List ℕ) → i < 100000 → call.qual.0 < 100 → total counts ≤ 4294967295 → length (line_of i call counts) ≤ 70
unfolding line_of total
line_length i call counts h q n =
    simp length-append
    (omega (
      arith,
      decimal_length 5 i (omega arith) h,
      decimal_length 2 call.qual.0 (omega arith) q,
      decimal_length 10 (total counts) (omega arith) (omega arith),
      decimal_length 10 (counted counts 0) (omega arith) (omega arith),
      decimal_length 10 (counted counts 1) (omega arith) (omega arith),
      decimal_length 10 (counted counts 2) (omega arith) (omega arith),
      decimal_length 10 (counted counts 3) (omega arith) (omega arith),
    ))

-- a quality of at most 93
call_quality : (c : Call) → is_call c ≡ true → c.qual.0 < 100
unfolding is_call
call_quality c h =
    let q = c.qual.0 in
    test (is_called_base c.base && (leb 2 q && leb q 93))
    (λ e. omega (arith, leb-true q 93 (both (leb 2 q) (leb q 93) (both (is_called_base c.base) (leb 2 q && leb q 93) e).1).1))
    (λ e. omega (arith, eqb-true q 2 (both (eqb c.base 78) (eqb q 2) (rw e at h)).1))

module _ (g : Settings) where
  -- of a column's line
  pub column_length : (i : ℕ) (c : List Observation) → i < 100000 → length (column_line i g c) ≤ 70
  unfolding column_line column_call builder_of_column
  column_length i c h =
      let pre = g.error_rate_pre_umi.0 in
      let post = g.error_rate_post_umi.0 in
      let es = map event_of c in
      let b = after pre post g.tie_rule es in
      line_length i (column_call g c) (builder_of_column g c).observations h (call_quality (column_call g c) (is_true _ (good_calls pre b).call))
      (laws pre post g.tie_rule es).most

  -- of all of them
  pub columns_length : (i : ℕ) (cs : List (List Observation)) → i + length cs ≤ 100000 → length (text_of (column_lines i g cs)) ≤ 70 * length cs
  unfolding column_lines
  columns_length i [] h = omega arith
  columns_length i (c ∷ cs) h =
      rw (length-append) (omega (arith, column_length i c (omega arith), columns_length (i + 1) cs (omega arith)))

-- of the last line
pub umi_length : (text : List ℕ) (flag : Bool) → length (umi_line text flag) ≤ 11 + length text
unfolding umi_line
umi_length text true = simp length-append (omega arith)
umi_length text false = simp length-append (omega arith)

-- all lines of a file, by the three parts of its text
pub lines_parts : (f : File) (u : Found) → text_of (lines_of f u) ≡ header ++ text_of (column_lines 1 f.settings f.columns) ++ umi_line u.text u.had_errors
unfolding lines_of
lines_parts f u = rw (joined_append (λ l. l) (column_lines 1 f.settings f.columns) (umi_line u.text u.had_errors ∷ []), append-nil (umi_line u.text u.had_errors))

-- of all lines of an accepted file
pub text_length : (s : List ℕ) (f : File) (u : Found) → read_file s ≡ Ok f → length (text_of (lines_of f u)) ≤ 45 + 70 * length f.columns + length u.text
text_length s f u e =
    let i = columns_inside s f e in
    let n = file_size s f e in
    let two = two_each f.columns in
    rw (lines_parts f u)
    (simp length-append (omega (arith, columns_length f.settings 1 f.columns (omega arith), umi_length u.text u.had_errors)))
