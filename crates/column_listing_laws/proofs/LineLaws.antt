-- One line for each column, the header and the line of the strings. Assumes nothing.
use Rattle.std.specs.List.{list_any}
use mathlib.Core.Path.{◌≡◌, refl, ◌∙◌, ap}
use mathlib.Core.Bool.{Bool, true, false, ◌&&◌}
use mathlib.Core.List.{List, [], ◌∷◌, ◌++◌}
use Prim.Native.Nat.{ℕ, zero, suc, ◌+◌, ◌≤◌, ◌<◌}
use native.Mathlib.Numerals.{add-one}
use native.Mathlib.Omega.{arith}
use borrow.Author.Tests.{eqb-true, leb-true, ne_eqb}
use lib.Dec.{leb, eqb}
use lib.Ieee.Bits.{is_true}
use lib.ListN.{length, get_or, length-append, get_or-append}
use lib.Seq.{get_or-append_seam}
use Rattle.words.proofs.Cases.{test, both, clash, refuted}
use Rattle.words.specs.Lists.{last_or}
use Rattle.words.proofs.Tests.{none_by_every}
use Rattle.lent_text.specs.Text.{letters, newline, space, decimal, is_digit, line}
use Rattle.lent_text.proofs.Decimal.{decimal-digits}
use Rattle.tie_rules.specs.Lanes.{counted}
use Rattle.lane_calls.specs.declared.call.Call.{Call}
use Rattle.base_builder_laws.specs.GoodCalls.{is_called_base, is_call}
use Rattle.base_builder_laws.proofs.GoodCalls.{good_calls}
use Rattle.umi_groups.specs.Found.{Found}
use Rattle.column_file.specs.declared.settings.Settings.{Settings}
use Rattle.column_file.specs.Format.{Observation}
use Rattle.column_file.specs.Reading.{File}
use Rattle.column_calls.specs.Columns.{builder_of_column, column_call}
use Rattle.listing_lines.specs.Lines.{header, depth_of, line_of, column_line, column_lines, flag, umi_line}
use Rattle.column_listing.specs.Listing.{lines_of}
use Rattle.column_listing_laws.specs.Laws.{is_newline, is_line, line_at, OneLineEach}

-- ---- fields without a newline make one line

line_after : (a b : List ℕ) → list_any is_newline a ≡ false → is_line b ≡ true → is_line (a ++ b) ≡ true
line_after [] b h k = k
line_after (x ∷ a) b h k = test (is_newline x) (λ e. clash (rw e at h) refl) (λ e. rw e (line_after a b (rw e at h) k))

-- no field has one
abbrev pub Plain : List (List ℕ) → Type 0
Plain [] = Unit {0}
Plain (f ∷ fs) = (list_any is_newline f ≡ false) × Plain fs

pub line_one : (fs : List (List ℕ)) → Plain fs → is_line (line fs) ≡ true
line_one [] h = refl
line_one (f ∷ []) h = line_after f (newline ∷ []) h.0 refl
line_one (f ∷ g ∷ fs) h = line_after f (space ∷ line (g ∷ fs)) h.0 (line_one (g ∷ fs) h.1)

-- a digit is none
digit_other : (x : ℕ) → is_digit x ≡ true → is_newline x ≡ false
digit_other x h = ne_eqb x newline (λ e. omega (arith, leb-true 48 x (both (leb 48 x) (leb x 57) h).0))

pub decimal_plain : (n : ℕ) → list_any is_newline (decimal n) ≡ false
decimal_plain n = none_by_every is_digit is_newline digit_other (decimal n) (decimal-digits n)

-- nor is the base of a call
base_other : (x : ℕ) → is_called_base x ≡ true → is_newline x ≡ false
base_other x h = refuted (is_newline x) (λ e. clash (ap is_called_base (eqb-true x newline e)) h)

call_plain : (c : Call) → is_call c ≡ true → list_any is_newline (c.base ∷ []) ≡ false
unfolding is_call
call_plain c h =
    let q = c.qual.0 in
    test (is_called_base c.base && (leb 2 q && leb q 93))
    (λ e. rw (base_other c.base (both (is_called_base c.base) (leb 2 q && leb q 93) e).0))
    (λ e. rw (eqb-true c.base 78 (both (eqb c.base 78) (eqb q 2) (rw e at h)).0))

-- ---- the lines of a file

line_of_lem : (i : ℕ) (call : Call) (counts : List ℕ) → is_call call ≡ true → is_line (line_of i call counts) ≡ true
unfolding line_of
line_of_lem i call counts h =
    line_one
    (decimal i ∷ (call.base ∷ []) ∷ decimal call.qual.0 ∷ decimal (depth_of counts)
    ∷ decimal (counted counts 0) ∷ decimal (counted counts 1) ∷ decimal (counted counts 2) ∷ decimal (counted counts 3) ∷ []) (
      decimal_plain i,
      (
        call_plain call h,
        (
          decimal_plain call.qual.0,
          (
            decimal_plain (depth_of counts),
            (decimal_plain (counted counts 0), (decimal_plain (counted counts 1), (decimal_plain (counted counts 2), (decimal_plain (counted counts 3), tt)))),
          ),
        ),
      ),
    )

column_line_lem : (i : ℕ) (g : Settings) (c : List Observation) → is_line (column_line i g c) ≡ true
unfolding column_line column_call
column_line_lem i g c =
    line_of_lem i (column_call g c) (builder_of_column g c).observations (is_true _ (good_calls g.error_rate_pre_umi.0 (builder_of_column g c)).call)

-- as many as there are columns, each of them one
lines_count : (i : ℕ) (g : Settings) (cs : List (List Observation)) → length (column_lines i g cs) ≡ length cs
unfolding column_lines
lines_count i g [] = refl
lines_count i g (c ∷ cs) = ap suc (lines_count (i + 1) g cs)

lines_each : (i : ℕ) (g : Settings) (cs : List (List Observation)) (k : ℕ) → k < length cs → is_line (get_or (column_lines i g cs) k []) ≡ true
unfolding column_lines
lines_each i g [] k h = absurd (omega arith)
lines_each i g (c ∷ cs) zero h = column_line_lem i g c
lines_each i g (c ∷ cs) (suc k) h = lines_each (i + 1) g cs k (omega arith)

header_line : is_line header ≡ true
header_line = refl

-- ---- the last line

flag_plain : (b : Bool) → list_any is_newline (flag b) ≡ false
flag_plain true = refl
flag_plain false = refl

umi_line_lem : (text : List ℕ) (b : Bool) → list_any is_newline text ≡ false → is_line (umi_line text b) ≡ true
unfolding umi_line
umi_line_lem text b h = line_one (letters "umi" ∷ text ∷ flag b ∷ []) (refl, (h, (flag_plain b, tt)))

last_after : (d : ℕ) (a : List ℕ) (x : ℕ) (b : List ℕ) → last_or d (a ++ (x ∷ b)) ≡ last_or x b
last_after d [] x b = refl
last_after d (y ∷ a) x b = last_after y a x b

umi_ends : (text : List ℕ) (b : Bool) → last_or 0 (umi_line text b) ≡ newline
unfolding umi_line
umi_ends text b = last_after space text space (flag b ++ (newline ∷ [])) ∙ last_after space (flag b) newline []

module _ (f : File) (u : Found) where
  abbrev columns : List (List ℕ)
  columns = column_lines 1 f.settings f.columns

  abbrev umi : List ℕ
  umi = umi_line u.text u.had_errors

  line_there : (k : ℕ) → k ≤ length f.columns → is_line (line_at f u k) ≡ true
  unfolding lines_of
  line_there zero h = header_line
  line_there (suc k) h =
      let n = lines_count 1 f.settings f.columns in
      rw (get_or-append columns (umi ∷ []) [] k (omega arith)) (lines_each 1 f.settings f.columns k (omega arith))

  last_there : line_at f u (length f.columns + 1) ≡ umi
  unfolding lines_of
  last_there = rw (add-one (length f.columns), ← lines_count 1 f.settings f.columns) (get_or-append_seam columns umi [] [])

  pub one_line_each : OneLineEach f u
  unfolding lines_of
  one_line_each = record {
    lines = omega (arith, lines_count 1 f.settings f.columns, length-append columns (umi ∷ []));
    one_line = λ k h. line_there k (omega arith);
    ends = rw last_there (umi_ends u.text u.had_errors);
    last_line = λ h. rw last_there (umi_line_lem u.text u.had_errors h);
  }
