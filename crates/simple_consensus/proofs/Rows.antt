-- The columns of rows of a width. Assumes nothing.
use mathlib.Core.Path.{◌≡◌, refl}
use mathlib.Core.List.{List, [], ◌∷◌}
use Prim.Native.Nat.{ℕ, zero, suc, ◌+◌, ◌<◌}
use native.Mathlib.Omega.{arith}
use lib.ListN.{length, drop, get_or}
use lib.Seq.{get_or-take, get_or-drop}
use Rattle.words.specs.Lists.{listed}
use Rattle.words.proofs.Listed.{listed_length, level_at}
use Rattle.umi_rows.specs.Rows.{rows_at, bytes_at, row_columns_at}
use Rattle.simple_consensus.specs.Strings.{column_of, columns_of}

pub columns_length : (w : ℕ) (rows : List (List ℕ)) → length (columns_of w rows) ≡ w
unfolding columns_of
columns_length w rows = listed_length (column_of rows) 0 w

pub column_at_lem : (w : ℕ) (rows : List (List ℕ)) (at : ℕ) → at < w → get_or (columns_of w rows) at [] ≡ column_of rows at
unfolding columns_of
column_at_lem w rows at h = level_at (column_of rows) [] w at h

column_bytes_lem : (w : ℕ) (s ps : List ℕ) (at : ℕ) → at < w → column_of (rows_at w s ps) at ≡ bytes_at at s ps
column_bytes_lem w s [] at h = refl
column_bytes_lem w s (p ∷ ps) at h = rw (get_or-take w (drop (p + 1) s) at 0 h, get_or-drop (p + 1) s at 0, column_bytes_lem w s ps at h)

listed_same : {A : Type 0} (f g : ℕ → A) (a n : ℕ) → ((k : ℕ) → k < a + n → f k ≡ g k) → listed f a n ≡ listed g a n
unfolding listed
listed_same f g a zero e = refl
listed_same f g a (suc n) e = rw (e a (omega arith), listed_same f g (a + 1) n (λ k h. e k (omega arith)))

-- they are those of the bytes after the places
pub columns_same : (w : ℕ) (s ps : List ℕ) → columns_of w (rows_at w s ps) ≡ row_columns_at w s ps
unfolding columns_of row_columns_at
columns_same w s ps = listed_same (column_of (rows_at w s ps)) (λ k. bytes_at k s ps) 0 w (λ k h. column_bytes_lem w s ps k (omega arith))
