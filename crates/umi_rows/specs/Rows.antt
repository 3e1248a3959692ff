-- As it is run; `columns_same` (simple_consensus/proofs/Rows) joins it to `columns_of`: strings of one width by the places of their length bytes in a
-- set. `is_high` and `differs_from`, at the end, are plain.
use Rattle.std.specs.List.{list_all}
use Rattle.std.specs.Prelude.{Bool, not, ◌&&◌, List, map, ℕ, ◌+◌, ◌≤◌, ◌<◌, leb, ltb, length, take, drop}
use Rattle.words.specs.Lists.{same_bytes, byte_at, listed}

-- there are 1 to 255 places, and w bytes follow each of them
unfoldable pub fitting : ℕ → List ℕ → List ℕ → Bool
fitting w s ps = ltb 0 (length ps) && leb (length ps) 255 && list_all (λ p. leb (p + 1 + w) (length s)) ps

-- the same as a claim: of each place
abbrev pub EachFits : ℕ → List ℕ → List ℕ → Type 0
EachFits w s ps = (k : ℕ) → k < length ps → byte_at ps k + 1 + w ≤ length s

-- and of their number
pub record RowsFit (w : ℕ) (s ps : List ℕ) : Type 0 where
  pub some : 0 < length ps
  pub few : length ps ≤ 255
  pub inside : EachFits w s ps

-- w bytes after each place
abbrev pub rows_at : ℕ → List ℕ → List ℕ → List (List ℕ)
rows_at w s ps = map (λ p. take w (drop (p + 1) s)) ps

-- the byte at place k of each
abbrev pub bytes_at : ℕ → List ℕ → List ℕ → List ℕ
bytes_at k s ps = map (λ p. byte_at s (p + 1 + k)) ps

-- as 255 bytes: those of the first 255, and 0 where there is none
unfoldable pub gathered_at : ℕ → List ℕ → List ℕ → List ℕ
gathered_at k s ps = listed (byte_at (bytes_at k s ps)) 0 255

-- the columns
unfoldable pub row_columns_at : ℕ → List ℕ → List ℕ → List (List ℕ)
row_columns_at w s ps = listed (λ k. bytes_at k s ps) 0 w

-- a byte of 128 or more
abbrev pub is_high : ℕ → Bool
is_high x = leb 128 x

-- a string that is not this text, byte by byte and with case
abbrev pub differs_from : List ℕ → List ℕ → Bool
differs_from text t = not (same_bytes t text)
