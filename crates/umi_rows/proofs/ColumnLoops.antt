-- The columns, and a list filled place by place. Assumes nothing.
use mathlib.Core.Path.{◌≡◌, sym, ◌∙◌, ap}
use mathlib.Core.List.{List, []}
use Prim.Native.Nat.{ℕ, ◌+◌, ◌≤◌, ◌<◌}
use native.Mathlib.Nat.{ne_of_lt}
use native.Mathlib.Numerals.{add-one}
use native.Mathlib.Omega.{arith}
use borrow.Author.Count.{below_none, below_more}
use borrow.Author.Tests.{ltb-true, ltb-false}
use lib.Dec.{ltb}
use lib.ListN.{length, take, drop, set, get_or, replicate, length-replicate, get_or-replicate, get_or-eq_default}
use lib.Seq.{take-suc, take-suc-set, take_all, length-take-le, get_or-take, get_or-drop, get_or-set_same, get_or-set_other, ext_get_or}
use Rattle.words.proofs.Cases.{test}
use Rattle.words.specs.Lists.{byte_at, listed}
use Rattle.words.proofs.Listed.{listed_length, level_at}
use Rattle.umi_rows.specs.Rows.{bytes_at, gathered_at, row_columns_at}
use Rattle.umi_rows.proofs.RowLoops.{given_length, given_at}

-- ---- a list filled place by place with what another holds
module _ {A : Type 0} (out l : List A) (k : ℕ) where
  pub filled_more : (d v : A) → k < length l → k < length out → v ≡ get_or l k d → take k out ≡ take k l → take (k + 1) (set out k v) ≡ take (k + 1) l
  filled_more d v h g w e = rw (add-one k, take-suc-set out k v g, take-suc l k d h, e, w)

  pub filled : length out ≤ k → length l ≤ k → take k out ≡ take k l → out ≡ l
  filled h g e = sym (take_all k out h) ∙ e ∙ take_all k l g

-- ---- the columns
pub first_byte : (s ps : List ℕ) (at : ℕ) → 0 < length ps → byte_at (bytes_at at s ps) 0 ≡ byte_at s (byte_at ps 0 + 1 + at)
first_byte s ps at h = given_at _ ps 0 0 h

-- read in the first string
pub first_at : (w : ℕ) (s ps : List ℕ) (at : ℕ) (first : List ℕ) → 0 < length ps → at < w → first ≡ take w (drop (byte_at ps 0 + 1) s) → byte_at first at ≡ byte_at (bytes_at at s ps) 0
first_at w s ps at first some h e =
    ap (λ (l : List ℕ). byte_at l at) e ∙ get_or-take w (drop (byte_at ps 0 + 1) s) at 0 h ∙ get_or-drop (byte_at ps 0 + 1) s at 0 ∙ sym (first_byte s ps at some)

module _ (w : ℕ) (s ps : List ℕ) where
  pub columns_length : length (row_columns_at w s ps) ≡ w
  unfolding row_columns_at
  columns_length = listed_length (λ k. bytes_at k s ps) 0 w

  pub column_at_lem : (at : ℕ) → at < w → get_or (row_columns_at w s ps) at [] ≡ bytes_at at s ps
  unfolding row_columns_at
  column_at_lem at h = level_at (λ k. bytes_at k s ps) [] w at h

-- ---- a column gathered byte by byte

-- below k the bytes of l, and 0 from there on
abbrev pub Gathered : List ℕ → List ℕ → ℕ → Type 0
Gathered l column k = ((i : ℕ) → i < k → byte_at column i ≡ byte_at l i) × ((i : ℕ) → k ≤ i → byte_at column i ≡ 0)

pub gathered_none : (l : List ℕ) (n : ℕ) → Gathered l (replicate n 0) 0
gathered_none l n =
    let zeros = replicate {A = ℕ} n 0 in
    (below_none _, λ i h. test (ltb i n) (λ t. get_or-replicate n i 0 0 (ltb-true i n t)) (λ t. get_or-eq_default zeros 0 (rw (length-replicate {A = ℕ} n 0) (ltb-false i n t))))

module _ (l column : List ℕ) (k : ℕ) (g : Gathered l column k) where
  pub gathered_more : (v : ℕ) → k < length column → v ≡ byte_at l k → Gathered l (set column k v) (k + 1)
  gathered_more v h e = (
    below_more (λ (i : ℕ). byte_at (set column k v) i ≡ byte_at l i) k
        (λ i m. get_or-set_other column k i v 0 (ne_of_lt m) ∙ g.0 i m)
        (get_or-set_same column k v 0 h ∙ e),
    λ i m. get_or-set_other column k i v 0 (λ same. omega arith) ∙ g.1 i (omega arith),
  )

  -- to the end, or to the end of l
  pub gathered_all : (n : ℕ) → length column ≡ n → ((i : ℕ) → k ≤ i → i < n → length l ≤ i) → column ≡ listed (byte_at l) 0 n
  gathered_all n size h =
      ext_get_or 0 column (listed (byte_at l) 0 n) (size ∙ sym (listed_length (byte_at l) 0 n))
      (λ i m.
      let few : i < n = omega arith in
      test (ltb i k)
      (λ t. g.0 i (ltb-true i k t) ∙ sym (level_at (byte_at l) 0 n i few))
      (λ t. let past = ltb-false i k t in g.1 i past ∙ sym (get_or-eq_default l 0 (h i past few)) ∙ sym (level_at (byte_at l) 0 n i few)))

-- the front of it, where there are at most 255 places
pub gathered : (s ps : List ℕ) (at : ℕ) (column : List ℕ) → length ps ≤ 255 → column ≡ gathered_at at s ps → take (length ps) column ≡ bytes_at at s ps
unfolding gathered_at
gathered s ps at column h e =
    let l = bytes_at at s ps in
    let f = byte_at l in
    let size : length l ≡ length ps = given_length _ ps in
    let room = listed_length f 0 255 in
    let few : length (take (length ps) (listed f 0 255)) ≡ length ps = length-take-le (length ps) (listed f 0 255) (omega arith) in
    rw e
    (ext_get_or 0 (take (length ps) (listed f 0 255)) l (few ∙ sym size)
    (λ i m. get_or-take (length ps) (listed f 0 255) i 0 (omega arith) ∙ level_at f 0 255 i (omega arith)))

module _ (s ps : List ℕ) (at : ℕ) (column : List ℕ) (e : take (length ps) column ≡ bytes_at at s ps) where
  pub gathered_first : 0 < length ps → byte_at column 0 ≡ byte_at (bytes_at at s ps) 0
  gathered_first h = sym (get_or-take (length ps) column 0 0 h) ∙ ap (λ (l : List ℕ). byte_at l 0) e
