-- The bytes of a lane counted at each place: over one string, and over the strings. Assumes nothing.
use mathlib.Core.Path.{◌≡◌, refl, ◌∙◌, ap}
use mathlib.Core.Bool.{Bool, true, false}
use mathlib.Core.List.{List}
use Prim.Native.Nat.{ℕ, suc, ◌+◌, ◌≤◌, ◌<◌}
use native.Mathlib.Nat.{not-suc-le-zero}
use native.Mathlib.Omega.{arith}
use borrow.Author.Count.{below_more}
use lib.Dec.{T, eqb, eqb→eq}
use lib.ListN.{length, take, drop, set, get_or-replicate, length-set, replicate, drop_of_length-le}
use lib.Seq.{get_or-set_same, get_or-set_other, get_or-take, get_or-drop}
use Rattle.std.specs.Prelude.{if◌then◌else◌}
use Rattle.words.specs.Claims.{every_from}
use Rattle.words.proofs.Claims.{below}
use Rattle.words.specs.Lists.{byte_at}
use Rattle.lent_bytes.proofs.Lists.{bytes_from}
use Rattle.tie_rules.specs.Lanes.{lane_of_byte}
use Rattle.umi_count_laws.specs.Counts.{times_observed}
use Rattle.umi_rows.specs.Rows.{bytes_at}
use Rattle.umi_family.specs.Counts.{hit_by, one_in, CountsRoom, Counted, CountsOf}
use Rattle.umi_rows.proofs.RowLoops.{given_length, given_at}

-- ---- the two letters of each lane, computed at all 256 bytes
unfoldable letters_at : ℕ → ℕ → ℕ → ℕ → Bool
letters_at upper lower i x = eqb (hit_by upper lower x) (one_in i x)

letters : (T (every_from (letters_at 65 97 0) 0 256)) × (T (every_from (letters_at 67 99 1) 0 256)) × (T (every_from (letters_at 71 103 2) 0 256)) × (T (every_from (letters_at 84 116 3) 0 256))
unfolding every_from letters_at lane_of_byte
letters = (tt, tt, tt, tt)

module _ (x : ℕ) (h : x < 256) where
  pub hits : (hit_by 65 97 x ≡ one_in 0 x) × (hit_by 67 99 x ≡ one_in 1 x) × (hit_by 71 103 x ≡ one_in 2 x) × (hit_by 84 116 x ≡ one_in 3 x)
  unfolding letters_at
  hits = (
    eqb→eq _ _ (below (letters_at 65 97 0) 256 letters.0 x h),
    eqb→eq _ _ (below (letters_at 67 99 1) 256 letters.1 x h),
    eqb→eq _ _ (below (letters_at 71 103 2) 256 letters.2 x h),
    eqb→eq _ _ (below (letters_at 84 116 3) 256 letters.3 x h),
  )

-- ---- one string, of which n places are passed: what is there is counted, and the rest is as before
abbrev pub Passed : ℕ → List ℕ → ℕ → List ℕ → List ℕ → Type 0
Passed i row n before after =
    (length after ≡ length before) × ((k : ℕ) → k < n → byte_at after k ≡ byte_at before k + one_in i (byte_at row k)) × ((k : ℕ) → n ≤ k → byte_at after k ≡ byte_at before k)

module _ (i : ℕ) (row before : List ℕ) where
  pub passed_none : Passed i row 0 before before
  passed_none = (refl, (λ k h. absurd (not-suc-le-zero h)), (λ k h. refl))

  module _ (n : ℕ) (after : List ℕ) (p : Passed i row n before after) (h : n < length row) (room : CountsRoom (length row) before) where
    pub passed_more : (v : ℕ) → v ≡ byte_at after n + one_in i (byte_at row n) → Passed i row (n + 1) before (set after n v)
    passed_more v e =
        let inside : n < length after = omega (arith, p.0, room.0) in
        let here : byte_at (set after n v) n ≡ byte_at before n + one_in i (byte_at row n) =
        get_or-set_same after n v 0 inside ∙ e ∙ ap (λ (m : ℕ). m + one_in i (byte_at row n)) (p.2 n (omega arith)) in
        let there : (k : ℕ) → k < n → byte_at (set after n v) k ≡ byte_at before k + one_in i (byte_at row k) =
        λ k l. get_or-set_other after n k v 0 (λ q. omega arith) ∙ p.1 k l in (
          length-set after n v ∙ p.0,
          below_more _ n there here,
          λ k l. get_or-set_other after n k v 0 (λ q. omega arith) ∙ p.2 k (omega arith),
        )

  pub passed_all : (n : ℕ) (after : List ℕ) → length row ≤ n → Passed i row n before after → Counted i row before after
  passed_all n after h p = (p.0, λ k l. p.1 k (omega arith))

-- ---- the strings, of which k are passed: with those of the strings left, the counts are the columns'
one_more : (b : Bool) (n : ℕ) → (if b then suc n else n) ≡ (if b then 1 else 0) + n
one_more true n = omega arith
one_more false n = omega arith

one_most : (b : Bool) → (if b then 1 else 0) ≤ 1
one_most true = omega arith
one_most false = omega arith

module _ (i w : ℕ) (s ps : List ℕ) where
  abbrev pub Done : ℕ → List ℕ → Type 0
  Done k counts =
      (length counts ≡ 255) × ((j : ℕ) → j < w → (byte_at counts j ≤ k) × (byte_at counts j + times_observed i (drop k (bytes_at j s ps)) ≡ times_observed i (bytes_at j s ps)))

  pub done_none : w ≤ 255 → Done 0 (replicate 255 0)
  done_none h = (
    refl,
    λ j l.
        let z : byte_at (replicate 255 0) j ≡ 0 = get_or-replicate 255 j 0 0 (omega arith) in
        (omega arith, rw z (omega arith)),
  )

  count_from : (j k : ℕ) → k < length ps → times_observed i (drop k (bytes_at j s ps)) ≡ one_in i (byte_at s (byte_at ps k + 1 + j)) + times_observed i (drop (k + 1) (bytes_at j s ps))
  unfolding times_observed
  count_from j k h =
      let size : length (bytes_at j s ps) ≡ length ps = given_length _ ps in
      rw (bytes_from (bytes_at j s ps) k (omega arith), given_at (λ p. byte_at s (p + 1 + j)) ps k 0 h)
      (one_more (eqb (lane_of_byte (byte_at s (byte_at ps k + 1 + j))) i) (times_observed i (drop (k + 1) (bytes_at j s ps))))

  module _ (k : ℕ) (before : List ℕ) (d : Done k before) where
    pub done_room : w ≤ 255 → k < 255 → CountsRoom w before
    done_room m h = (omega (arith, d.0), λ j l. omega (arith, (d.1 j l).0))

    pub done_more : k < length ps → (row : List ℕ) → row ≡ take w (drop (byte_at ps k + 1) s) → length row ≡ w → (after : List ℕ) → Counted i row before after → Done (k + 1) after
    done_more h row r size after counted = (
      counted.0 ∙ d.0,
      λ j l.
          let x = byte_at s (byte_at ps k + 1 + j) in
          let here : byte_at row j ≡ x = rw r (get_or-take w (drop (byte_at ps k + 1) s) j 0 l ∙ get_or-drop (byte_at ps k + 1) s j 0) in
          let now : byte_at after j ≡ byte_at before j + one_in i x = counted.1 j (omega arith) ∙ rw here in
          let least : one_in i x ≤ 1 = one_most (eqb (lane_of_byte x) i) in
          let rest = count_from j k h in
          let so = d.1 j l in
          (omega (arith, so.0), omega (arith, so.1)),
    )

    pub done_all : length ps ≤ k → CountsOf i w s ps before
    unfolding times_observed
    done_all h j l =
        let size : length (bytes_at j s ps) ≤ k = omega (arith, given_length (λ p. byte_at s (p + 1 + j)) ps) in
        let so = rw (drop_of_length-le (bytes_at j s ps) size) at (d.1 j l).1 in
        omega (arith, so)
