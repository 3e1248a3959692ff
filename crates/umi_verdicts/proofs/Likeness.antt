-- Strings each of which is like the first: no byte is 128 or more where none of the first's is, and no column is faulty. Assumes nothing.
use Rattle.std.specs.Prelude.{Ok}
use Rattle.std.specs.List.{list_all, list_any}
use mathlib.Core.Path.{◌≡◌, refl, sym, ◌∙◌, ap, subst}
use mathlib.Core.Bool.{Bool, true, false, ◌&&◌, ◌||◌, and_assoc}
use mathlib.Core.List.{List, [], ◌∷◌}
use Prim.Native.Nat.{ℕ, zero, suc, ◌+◌, ◌≤◌, ◌<◌}
use native.Mathlib.Nat.{le_of_suc-le-suc, not-suc-le-zero}
use native.Mathlib.Omega.{arith}
use borrow.Author.Tests.{lt-leb, leb-true, eqb-true, eq-eqb, ne_eqb}
use lib.Dec.{eqb}
use lib.ListN.{length, take, drop, length-drop, drop_of_length-le}
use lib.Seq.{length-take-le, get_or-take, get_or-drop}
use Rattle.words.proofs.Cases.{test, clash, both, and-false}
use Rattle.words.specs.Lists.{byte_at}
use Rattle.words.proofs.Tests.{none_by_every}
use Rattle.lent_bytes.proofs.Lists.{bytes_from}
use Rattle.refusals.specs.Result.{first_refused}
use Rattle.words.specs.Lists.{listed}
use Rattle.umi_column.specs.Dna.{to_ascii_uppercase, is_dna_base}
use Rattle.umi_column.specs.Verdicts.{is_unlike, verdict_of}
use Rattle.umi_column.proofs.ColumnVerdicts.{first_dna_sound, no_dna_sound}
use Rattle.umi_rows.specs.Rows.{RowsFit, rows_at, bytes_at, row_columns_at, is_high}
use Rattle.umi_rows.proofs.RowLoops.{given_at}
use Rattle.umi_verdicts.specs.Likeness.{is_like, like_row}
use Rattle.umi_verdicts.specs.FamilyVerdicts.{verdict_within}

neither : (a b : Bool) → (a || b) ≡ false → (a ≡ false) × (b ≡ false)
neither true b h = clash h refl
neither false b h = (refl, h)

-- ---- a byte like the first
dna_low : (x : ℕ) → is_dna_base x ≡ true → is_high x ≡ false
unfolding is_dna_base to_ascii_uppercase
dna_low x d =
    test (is_high x)
    (λ t.
    let h : 128 ≤ x = leb-true 128 x t in
    let other : (b : ℕ) → b < 128 → eqb x b ≡ false = λ b l. ne_eqb x b (λ e. omega arith) in
    clash (rw (lt-leb x 122 (omega arith), and-false, other 65 (omega arith), other 67 (omega arith), other 71 (omega arith), other 84 (omega arith), other 78 (omega arith))) d)
    (λ t. t)

-- the same byte, or both are DNA
module _ (f x : ℕ) (like : is_like f x ≡ true) where
  by_like : {A : Type 0} → (f ≡ x → A) → (is_dna_base f ≡ true → is_dna_base x ≡ true → A) → A
  by_like same dna =
      test (eqb f x)
      (λ t. same (eqb-true f x t))
      (λ t. let d = both (is_dna_base f) (is_dna_base x) (rw t at like) in dna d.0 d.1)

  like_low : is_high f ≡ false → is_high x ≡ false
  like_low h = by_like (λ e. subst (λ (y : ℕ). is_high y ≡ false) e h) (λ _ d. dna_low x d)

  like_not_unlike : is_unlike f x ≡ false
  like_not_unlike = by_like (λ e. rw (eq-eqb x f (sym e), and-false)) (λ _ d. rw d)

  like_other : is_dna_base f ≡ false → is_dna_base x ≡ false
  like_other h = by_like (λ e. subst (λ (y : ℕ). is_dna_base y ≡ false) e h) (λ d _. clash h d)

-- ---- a string like the first: no byte of 128 or more, and at each place a byte like the first's
row_low : (fs xs : List ℕ) → like_row fs xs ≡ true → list_any is_high fs ≡ false → list_any is_high xs ≡ false
row_low [] [] l h = refl
row_low [] (x ∷ xs) l h = clash refl l
row_low (f ∷ fs) [] l h = refl
row_low (f ∷ fs) (x ∷ xs) l h =
    let t = both (is_like f x) (like_row fs xs) l in
    let n = neither (is_high f) (list_any is_high fs) h in
    rw (like_low f x t.0 n.0) (row_low fs xs t.1 n.1)

like_at : (fs xs : List ℕ) (k : ℕ) → like_row fs xs ≡ true → k < length fs → is_like (byte_at fs k) (byte_at xs k) ≡ true
like_at [] xs k l h = absurd (not-suc-le-zero h)
like_at (f ∷ fs) [] k l h = clash refl l
like_at (f ∷ fs) (x ∷ xs) zero l h = (both (is_like f x) (like_row fs xs) l).0
like_at (f ∷ fs) (x ∷ xs) (suc k) l h = like_at fs xs k (both (is_like f x) (like_row fs xs) l).1 (le_of_suc-le-suc h)

-- ---- a column whose bytes are like its first
column_sound : (column : List ℕ) → list_all (is_like (byte_at column 0)) column ≡ true → verdict_of column ≡ Ok tt
column_sound column l =
    let f = byte_at column 0 in
    let u = none_by_every (is_like f) (is_unlike f) (like_not_unlike f) column l in
    test (is_dna_base f)
    (λ d. first_dna_sound column u d)
    (λ d. no_dna_sound column u (none_by_every (is_like f) is_dna_base (λ x h. like_other f x h d) column l))

all_sound : (column : ℕ → List ℕ) (a n : ℕ) → ((k : ℕ) → a ≤ k → k < a + n → verdict_of (column k) ≡ Ok tt) → first_refused verdict_of (listed column a n) ≡ Ok tt
unfolding listed
all_sound column a zero g = refl
all_sound column a (suc n) g = rw (g a (omega arith) (omega arith)) (all_sound column (a + 1) n (λ k h l. g k (omega arith) (omega arith)))

-- ---- w bytes after each place
module _ (w : ℕ) (s : List ℕ) where
  abbrev row : ℕ → List ℕ
  row p = take w (drop (p + 1) s)

  row_at : (p k : ℕ) → k < w → byte_at (row p) k ≡ byte_at s (p + 1 + k)
  row_at p k h = get_or-take w (drop (p + 1) s) k 0 h ∙ get_or-drop (p + 1) s k 0

  module _ (q k : ℕ) (h : k < w) (fit : q + 1 + w ≤ length s) where
    first_length : length (row q) ≡ w
    first_length = length-take-le w (drop (q + 1) s) (rw (length-drop (q + 1) s) (omega arith))

    bytes_like : (ps : List ℕ) → list_all (like_row (row q)) (rows_at w s ps) ≡ true → list_all (is_like (byte_at s (q + 1 + k))) (bytes_at k s ps) ≡ true
    bytes_like [] l = refl
    bytes_like (p ∷ ps) l =
        let t = both (like_row (row q) (row p)) (list_all (like_row (row q)) (rows_at w s ps)) l in
        let here = like_at (row q) (row p) k t.0 (rw first_length h) in
        rw (rw (row_at q k h, row_at p k h) at here) (bytes_like ps t.1)

  pub like_sound : (ps : List ℕ) → RowsFit w s ps → list_any is_high (row (byte_at ps 0)) ≡ false → list_all (like_row (row (byte_at ps 0))) (rows_at w s ps) ≡ true
      → verdict_within w s ps ≡ Ok tt
  unfolding verdict_within row_columns_at
  like_sound ps fit low l =
      let q = byte_at ps 0 in
      let sound : (k : ℕ) → k < w → verdict_of (bytes_at k s ps) ≡ Ok tt =
      λ k h. column_sound (bytes_at k s ps) (rw (given_at (λ p. byte_at s (p + 1 + k)) ps 0 0 fit.some) (bytes_like q k h (fit.inside 0 fit.some) ps l)) in
      rw (none_by_every (like_row (row q)) (list_any is_high) (λ t h. row_low (row q) t h low) (rows_at w s ps) l) (all_sound (λ k. bytes_at k s ps) 0 w (λ k _ h. sound k (omega arith)))

-- ---- two strings, of which the first i places are passed
pub like_lengths : (fs xs : List ℕ) → (length fs ≡ length xs → ⊥) → false ≡ like_row fs xs
like_lengths [] [] h = absurd (h refl)
like_lengths [] (x ∷ xs) h = refl
like_lengths (f ∷ fs) [] h = refl
like_lengths (f ∷ fs) (x ∷ xs) h = rw (← like_lengths fs xs (λ e. h (ap suc e))) (sym (and-false (is_like f x)))

pub like_self : (fs : List ℕ) → like_row fs fs ≡ true
like_self [] = refl
like_self (f ∷ fs) = rw (eq-eqb f f refl) (like_self fs)

module _ (fs xs : List ℕ) (i : ℕ) where
  pub like_more : (b : Bool) → i < length fs → i < length xs
      → (b && is_like (byte_at fs i) (byte_at xs i) && like_row (drop (i + 1) fs) (drop (i + 1) xs)) ≡ (b && like_row (drop i fs) (drop i xs))
  like_more b h k = rw (bytes_from fs i h, bytes_from xs i k) (and_assoc b (is_like (byte_at fs i) (byte_at xs i)) (like_row (drop (i + 1) fs) (drop (i + 1) xs)))

  pub like_done : length fs ≤ i → length xs ≤ i → like_row (drop i fs) (drop i xs) ≡ true
  like_done h k = rw (drop_of_length-le fs h, drop_of_length-le xs k)
