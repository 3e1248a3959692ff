-- The columns of a file by their places: an observation, a column, the walk over all of them, and the first faulty one. Assumes nothing.
use Rattle.std.specs.Prelude.{Option, Some, None}
use mathlib.Core.Path.{◌≡◌, refl, ap}
use mathlib.Core.List.{List, ◌∷◌}
use Prim.Native.Nat.{ℕ, zero, suc, ◌+◌, ◌*◌, ◌≤◌, ◌<◌}
use native.Mathlib.Nat.{add-zero}
use native.Mathlib.Omega.{arith}
use borrow.Author.Tests.{ltb-true, ltb-false, le-leb, lt-leb, leb-true, leb-false}
use lib.Dec.{ltb, leb}
use lib.ListN.{length, drop}
use Rattle.words.proofs.Cases.{test, choice}
use Rattle.words.specs.Lists.{byte_at}
use Rattle.string_set.specs.Readers.{Taken, taken, short, next, many}
use Rattle.string_set.proofs.Readers.{byte-at, byte_end, word_at_lem, word_end}
use Rattle.column_file.specs.declared.columns.ColumnPlace.{ColumnPlace}
use Rattle.column_file.specs.Format.{Observation, observation, column}
use Rattle.column_file.specs.Places.{word_at, column_at, observations_at, columns_at, columns_size}

-- ---- observations

-- the observation at a place
abbrev observation_at : List ℕ → ℕ → Observation
observation_at s at = record { base = byte_at s at; quality = byte_at s (at + 1) }

-- reading it there
module _ (s : List ℕ) (at : ℕ) where
  observation_at_lem : at + 2 ≤ length s → observation (drop at s) ≡ taken (observation_at s at) (drop (at + 2) s)
  unfolding observation
  observation_at_lem h =
      let e : at + 2 ≡ at + 1 + 1 = omega arith in
      rw (byte-at s at (omega arith), byte-at s (at + 1) (omega arith), e)

  observation_end : length s < at + 2 → observation (drop at s) ≡ short
  unfolding observation
  observation_end h =
      test (ltb at (length s))
      (λ t. rw (byte-at s at (ltb-true at (length s) t), byte_end s (at + 1) (omega arith)))
      (λ t. rw (byte_end s at (ltb-false at (length s) t)))

-- n of them
pub observations_at_lem : (s : List ℕ) (at n : ℕ) → at + 2 * n ≤ length s → many observation n (drop at s) ≡ taken (observations_at s at n) (drop (at + 2 * n) s)
unfolding many
observations_at_lem s at zero h = rw (add-zero at)
observations_at_lem s at (suc n) h =
    let e : at + 2 * suc n ≡ at + 2 + 2 * n = omega arith in
    rw (observation_at_lem s at (omega arith), observations_at_lem s (at + 2) n (omega arith), e)

-- the bytes do not reach
pub observations_cut : (s : List ℕ) (at n : ℕ) → at ≤ length s → length s < at + 2 * n → many observation n (drop at s) ≡ short
unfolding many
observations_cut s at zero k h = absurd (omega arith)
observations_cut s at (suc n) k h =
    test (leb (at + 2) (length s))
    (λ t.
    let i : at + 2 ≤ length s = leb-true (at + 2) (length s) t in
    rw (observation_at_lem s at i, observations_cut s (at + 2) n i (omega arith)))
    (λ t. rw (observation_end s at (leb-false (at + 2) (length s) t)))

-- n observations are n
pub observations_length : (s : List ℕ) (at n : ℕ) → length (observations_at s at n) ≡ n
observations_length s at zero = refl
observations_length s at (suc n) = ap suc (observations_length s (at + 2) n)

-- ---- a column

-- reading the one whose count is at a place
module _ (s : List ℕ) (at : ℕ) where
  pub column_at_lem : at + 2 + 2 * word_at s at ≤ length s
      → column (drop at s) ≡ taken (observations_at s (at + 2) (word_at s at)) (drop (at + 2 + 2 * word_at s at) s)
  unfolding column
  column_at_lem h = rw (word_at_lem s at (omega arith), observations_at_lem s (at + 2) (word_at s at) h)

  pub column_cut : length s < at + 2 + 2 * word_at s at → column (drop at s) ≡ short
  unfolding column
  column_cut h =
      test (leb (at + 2) (length s))
      (λ t.
      let i : at + 2 ≤ length s = leb-true (at + 2) (length s) t in
      rw (word_at_lem s at i, observations_cut s (at + 2) (word_at s at) i h))
      (λ t. rw (word_end s at (leb-false (at + 2) (length s) t)))

  -- by its place
  pub place-past : length s < at + 2 + 2 * word_at s at → column_at s at ≡ None
  unfolding column_at
  place-past h = rw (lt-leb (at + 2 + 2 * word_at s at) (length s) h)

  pub place_at : at + 2 + 2 * word_at s at ≤ length s → column_at s at ≡ Some (record { start = at + 2; count = word_at s at })
  unfolding column_at
  place_at h = rw (le-leb (at + 2 + 2 * word_at s at) (length s) h)

  -- a place that is named lies in the bytes
  pub column_inside : (p : ColumnPlace) → column_at s at ≡ Some p → (p.start ≡ at + 2) × (p.count ≡ word_at s at) × (p.start + 2 * p.count ≤ length s)
  unfolding column_at
  column_inside p =
      choice (λ (q : Option ColumnPlace). q ≡ Some p → (p.start ≡ at + 2) × (p.count ≡ word_at s at) × (p.start + 2 * p.count ≤ length s))
      (leb (at + 2 + 2 * word_at s at) (length s)) _ _
      (λ t e. let i = leb-true _ _ t in let a : p.start ≡ at + 2 = cc in let b : p.count ≡ word_at s at = cc in (a, b, omega arith))
      (λ t e. absurd (cc))

-- ---- the walk over columns

-- what the walk over n columns from a place on reads
abbrev pub Ended : List ℕ → ℕ → ℕ → Taken (List (List Observation)) → Type 0
Ended s at n short = Unit {0}
Ended s at n (taken cs r) = (r ≡ drop (at + columns_size cs) s) × (at + columns_size cs ≤ length s) × (columns_at s at n ≡ cs) × (length cs ≡ n)

module _ (s : List ℕ) (at : ℕ) (c : List Observation) (k n : ℕ) (size : k ≡ at + 2 + 2 * length c)
    (first : columns_at s at (suc n) ≡ c ∷ columns_at s k n) where
  -- over one column more
  ended_next : (t : Taken (List (List Observation))) → Ended s k n t → Ended s at (suc n) (next t (λ l r. taken (c ∷ l) r))
  unfolding columns_size
  ended_next short h = tt
  ended_next (taken cs r) h =
      let e : at + (2 + 2 * length c + columns_size cs) ≡ k + columns_size cs = omega arith in
      (rw e h.0, rw e h.1, rw (first, h.2), ap suc h.3)

-- it ends where they do
pub ended : (s : List ℕ) (at n : ℕ) → at ≤ length s → Ended s at n (many column n (drop at s))
unfolding many columns_size
ended s at zero h = (rw (add-zero at), omega arith, refl, refl)
ended s at (suc n) h =
    test (leb (at + 2 + 2 * word_at s at) (length s))
    (λ t.
    let i : at + 2 + 2 * word_at s at ≤ length s = leb-true _ _ t in
    let c = observations_at s (at + 2) (word_at s at) in
    let k = at + 2 + 2 * word_at s at in
    let size : k ≡ at + 2 + 2 * length c = rw (observations_length s (at + 2) (word_at s at)) in
    let first : columns_at s at (suc n) ≡ c ∷ columns_at s k n = rw (place_at s at i) in
    rw (column_at_lem s at i) (ended_next s at c k n size first (many column n (drop k s)) (ended s k n i)))
    (λ t. rw (column_cut s at (leb-false _ _ t)) tt)
