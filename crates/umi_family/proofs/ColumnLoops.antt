-- Loops over the columns: their sums, and what all of them give. Assumes nothing.
use mathlib.Core.Path.{◌≡◌, refl, sym, ◌∙◌, ap}
use mathlib.Core.List.{List, [], ◌∷◌, ◌++◌, map}
use Prim.Native.Nat.{ℕ, zero, suc, ◌+◌, ◌-◌, ◌≤◌, ◌<◌}
use native.Mathlib.Omega.{arith}
use lib.Ieee.{Float}
use lib.ListN.{length, take, drop, set, get_or, length-map, length-set, length-append, length-drop, drop_of_length-le}
use lib.Seq.{take-take, length-take-le}
use Rattle.std.proofs.lemmas.List.{take-append-le}
use Rattle.words.specs.Lists.{last_or, byte_at}
use Rattle.lent_bytes.proofs.Lists.{bytes_from}
use Rattle.words.specs.Lists.{listed}
use Rattle.rate_tables.specs.declared.adjusted.AdjustedEntry.{AdjustedEntry}
use Rattle.base_builder.specs.declared.builder.ConsensusBaseBuilder.{ConsensusBaseBuilder}
use Rattle.umi_column.specs.Calls.{named_byte}
use Rattle.umi_column.proofs.SumLaws.{sums_byte}
use Rattle.tie_rules.specs.declared.tie_rule.TieRule.{TieRule}
use Rattle.lane_sums.specs.declared.observation.LaneSums.{LaneSums}
use Rattle.observation_windows.specs.Windows.{window_of}
use Rattle.umi_column.specs.Sums.{summed_by, summed_all}
use Rattle.umi_rows.specs.Rows.{bytes_at, row_columns_at}
use Rattle.umi_rows.proofs.RowLoops.{map_at, given_length, given_at}
use Rattle.umi_rows.proofs.ColumnLoops.{filled_more, filled, columns_length, column_at_lem}
use Rattle.umi_family.specs.Family.{builder_by, bytes_by, byte_summed, bytes_summed, last_by}

-- ---- the sums of a column, of whose bytes k are passed
module _ (window : List Float) (f : ℕ → ℕ) (ps : List ℕ) (k : ℕ) (sums : LaneSums) where
  pub summed_more : k < length ps → (after : LaneSums) → after ≡ summed_by window (f (byte_at ps k)) sums
      → summed_all window (drop (k + 1) (map f ps)) after ≡ summed_all window (drop k (map f ps)) sums
  unfolding summed_all
  summed_more h after e = rw (bytes_from (map f ps) k (rw (given_length f ps) h), given_at f ps k 0 h, e)

  pub summed_none : length ps ≤ k → summed_all window (drop k (map f ps)) sums ≡ sums
  unfolding summed_all
  summed_none h =
      let l : length (map f ps) ≤ k = rw (given_length f ps) h in
      rw (drop_of_length-le (map f ps) l)

-- ---- the columns
module _ (w : ℕ) (s ps : List ℕ) where
  -- the byte at a place by the sums of its column
  pub summed_at : (window : List Float) (rule : TieRule) (at : ℕ) → at < w → get_or (bytes_summed window rule (row_columns_at w s ps)) at 0 ≡ byte_summed window rule (bytes_at at s ps)
  summed_at window rule at h = map_at _ (row_columns_at w s ps) at [] 0 (rw (columns_length w s ps) h) ∙ rw (column_at_lem w s ps at h)

  pub summed_length : (window : List Float) (rule : TieRule) → length (bytes_summed window rule (row_columns_at w s ps)) ≡ w
  summed_length window rule = length-map (row_columns_at w s ps) _ ∙ columns_length w s ps

  -- a column more
  pub column-more : (window : List Float) (rule : TieRule) (text : List ℕ) (at x : ℕ) → at < length text → at < w → x ≡ byte_summed window rule (bytes_at at s ps)
      → take at text ≡ take at (bytes_summed window rule (row_columns_at w s ps)) → take (at + 1) (set text at x) ≡ take (at + 1) (bytes_summed window rule (row_columns_at w s ps))
  column-more window rule text at x inside h e told =
      let bytes = bytes_summed window rule (row_columns_at w s ps) in
      let size : length bytes ≡ w = summed_length window rule in
      filled_more text bytes at 0 x (omega arith) inside (e ∙ sym (summed_at window rule at h)) told

-- a text of which the front is written
pub front_told : (n : ℕ) (text front bytes : List ℕ) → n ≤ length text → n ≤ length bytes → front ≡ take (length (take n text)) bytes
    → (length (front ++ drop n text) ≡ length text) × (take n (front ++ drop n text) ≡ take n bytes)
front_told n text front bytes h m e =
    let size : length (take n text) ≡ n = length-take-le n text h in
    let same : front ≡ take n bytes = rw size at e in
    let long : length front ≡ n = ap length same ∙ length-take-le n bytes m in
    let inside : n ≤ length front = omega arith in (
      simp (length-append, length-drop) (omega arith),
      take-append-le n front (drop n text) inside ∙ ap (take n) same ∙ take-take n n bytes (omega arith),
    )

-- ---- what all columns give
map_listed : (f g : List ℕ → ℕ) (column : ℕ → List ℕ) (a n : ℕ) → ((k : ℕ) → f (column k) ≡ g (column k)) → map f (listed column a n) ≡ map g (listed column a n)
unfolding listed
map_listed f g column a zero e = refl
map_listed f g column a (suc n) e = rw (e a, map_listed f g column (a + 1) n e)

last_listed : {B : Type 0} (f : List ℕ → B) (x : B) (column : ℕ → List ℕ) (a n : ℕ) → last_or x (map f (listed column a (suc n))) ≡ f (column (a + n))
unfolding listed
last_listed f x column a zero =
    let e : a ≡ a + 0 = omega arith in
    ap (λ (k : ℕ). f (column k)) e
last_listed f x column a (suc n) =
    let e : a + 1 + n ≡ a + suc n = omega arith in
    last_listed f (f (column a)) column (a + 1) n ∙ ap (λ (k : ℕ). f (column k)) e

module _ (e : AdjustedEntry) (b : ConsensusBaseBuilder) (s ps : List ℕ) where
  -- the bytes by the sums are those by the builder
  summed_bytes : (w : ℕ) → length ps ≤ 255 → bytes_summed (window_of e.correct e.error_per_alt) b.tie_rule (row_columns_at w s ps) ≡ bytes_by e b (row_columns_at w s ps)
  unfolding row_columns_at
  summed_bytes w h =
      map_listed _ _ (λ k. bytes_at k s ps) 0 w
      (λ k. sums_byte e.correct e.error_per_alt (bytes_at k s ps) b (byte_at (bytes_at k s ps) 0) (rw (given_length (λ p. byte_at s (p + 1 + k)) ps) (omega arith)))

  pub no_columns : (text : List ℕ) → length text ≡ 0 → (text ≡ bytes_by e b (row_columns_at (length text) s ps)) × (b ≡ last_by e b (row_columns_at (length text) s ps))
  unfolding row_columns_at listed
  no_columns [] h = (refl, refl)
  no_columns (x ∷ xs) h = absurd (omega arith)

  last_by_lem : (w : ℕ) → 0 < w → last_by e b (row_columns_at w s ps) ≡ builder_by e b (bytes_at (w - 1) s ps)
  unfolding row_columns_at
  last_by_lem w h =
      let one : w ≡ suc (w - 1) = omega arith in
      let end : 0 + (w - 1) ≡ w - 1 = omega arith in
      ap (λ (n : ℕ). last_by e b (listed (λ k. bytes_at k s ps) 0 n)) one
      ∙ last_listed (builder_by e b) b (λ k. bytes_at k s ps) 0 (w - 1) ∙ ap (λ (k : ℕ). builder_by e b (bytes_at k s ps)) end

  -- the last column, after the others
  pub last_column : (w : ℕ) → 0 < w → length ps ≤ 255 → (text : List ℕ) → length text ≡ w
      → take (w - 1) text ≡ take (w - 1) (bytes_summed (window_of e.correct e.error_per_alt) b.tie_rule (row_columns_at w s ps))
      → (after : ConsensusBaseBuilder) → after ≡ builder_by e b (bytes_at (w - 1) s ps) → (x : ℕ) → x ≡ named_byte after (byte_at (bytes_at (w - 1) s ps) 0)
      → (set text (w - 1) x ≡ bytes_by e b (row_columns_at w s ps)) × (after ≡ last_by e b (row_columns_at w s ps))
  last_column w h most text n told after f x g =
      let columns = row_columns_at w s ps in
      let bytes = bytes_by e b columns in
      let size : length bytes ≡ w = length-map columns _ ∙ columns_length w s ps in
      let many : length columns ≡ w = columns_length w s ps in
      let passed : take (w - 1) text ≡ take (w - 1) bytes = rw (summed_bytes w most) at told in
      let here : get_or bytes (w - 1) 0 ≡ named_byte (builder_by e b (bytes_at (w - 1) s ps)) (byte_at (bytes_at (w - 1) s ps) 0) =
      map_at _ columns (w - 1) [] 0 (omega arith) ∙ rw (column_at_lem w s ps (w - 1) (omega arith)) in
      let all : take (w - 1 + 1) (set text (w - 1) x) ≡ take (w - 1 + 1) bytes =
      filled_more text bytes (w - 1) 0 x (omega arith) (omega arith) (g ∙ rw f (sym here)) passed in
      (filled (set text (w - 1) x) bytes (w - 1 + 1) (simp length-set (omega arith)) (omega arith) all, f ∙ sym (last_by_lem w h))
