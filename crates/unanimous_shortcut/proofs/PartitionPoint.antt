-- The search by halving in a table that never falls: it stops after as many entries as are at or below the gap, and these are the first. In any table
-- it stops within the table. Assumes nothing.
use mathlib.Core.Path.{◌≡◌, refl}
use mathlib.Core.Bool.{true, false, ◌&&◌}
use mathlib.Core.List.{List}
use mathlib.Core.Logic.{⊎_elim}
use Prim.Native.Nat.{ℕ, zero, suc, ◌+◌, ◌-◌, ◌≤◌, ◌<◌}
use native.Mathlib.Nat.{eq-or-lt_of_le, le_of_suc-le-suc, not-suc-le-zero}
use native.Mathlib.Omega.{arith}
use lib.Dec.{leb}
use lib.Ieee.{Float, le}
use borrow.Author.Tests.{le-leb, leb-true, leb-false}
use Rattle.words.proofs.Cases.{test, clash, choice, both}
use Rattle.float.proofs.Order.{le_le}
use Rattle.unanimous_shortcut.specs.Search.{entry, advanced, searched, partition_point, at_or_below}

-- ---- any table
module _ (ts : List Float) (gap : Float) where
  -- of n entries at most n are at or below the gap
  count_most : (n : ℕ) → at_or_below ts gap n ≤ n
  unfolding at_or_below
  count_most zero = omega arith
  count_most (suc n) =
      let h = count_most n in
      choice (λ (m : ℕ). m ≤ suc n) (le (entry ts n) gap) (at_or_below ts gap n + 1) (at_or_below ts gap n) (λ t. omega arith) (λ t. omega arith)

-- ---- a table that never falls
module _ (ts : List Float) (gap : Float) (rises : (q r : ℕ) → q ≤ r → r < 94 → le (entry ts q) (entry ts r) ≡ true) where
  -- what is before an entry at or below the gap is so too
  before : (k n : ℕ) → k ≤ n → n < 94 → le (entry ts n) gap ≡ true → le (entry ts k) gap ≡ true
  before k n h m t = le_le (entry ts k) (entry ts n) gap (rises k n h m) t

  -- where an entry is, all n before it are
  count_all : (n : ℕ) → n < 94 → le (entry ts n) gap ≡ true → at_or_below ts gap n ≡ n
  unfolding at_or_below
  count_all zero m t = refl
  count_all (suc n) m t =
      let u = before n (suc n) (omega arith) m t in
      let h = count_all n (omega arith) u in
      rw u (omega arith)

  -- the entries that are at or below the gap are those before their number
  count_above : (n k : ℕ) → n ≤ 94 → k < n → le (entry ts k) gap ≡ true → k < at_or_below ts gap n
  unfolding at_or_below
  count_above zero k m h t = absurd (not-suc-le-zero h)
  count_above (suc n) k m h t =
      test (le (entry ts n) gap)
      (λ u. let e = count_all n m u in rw u (omega arith))
      (λ u. rw u
      (⊎_elim (λ e. clash u (rw e at t)) (λ l. count_above n k (omega arith) l t) (eq-or-lt_of_le (le_of_suc-le-suc h))))

  count_below : (n k : ℕ) → n ≤ 94 → k < at_or_below ts gap n → le (entry ts k) gap ≡ true
  unfolding at_or_below
  count_below zero k m h = absurd (not-suc-le-zero h)
  count_below (suc n) k m h =
      let e = count_most ts gap n in
      test (le (entry ts n) gap)
      (λ u. let l = rw u at h in before k n (omega arith) m u)
      (λ u. count_below n k (omega arith) (rw u at h))

  -- where a step is not taken, that number is nearer
  untaken : (p s : ℕ) → 1 ≤ s → (leb (p + s) 94 && le (entry ts (p + s - 1)) gap) ≡ false → at_or_below ts gap 94 < p + s
  untaken p s o t =
      test (leb (p + s) (at_or_below ts gap 94))
      (λ u.
      let h = leb-true (p + s) (at_or_below ts gap 94) u in
      let most = count_most ts gap 94 in
      clash t (rw (le-leb (p + s) 94 (omega arith)) (count_below 94 (p + s - 1) (omega arith) (omega arith))))
      (leb-false (p + s) (at_or_below ts gap 94))

  -- a step halves the room that is left for it
  step : (p s : ℕ) → 1 ≤ s → p ≤ at_or_below ts gap 94 → at_or_below ts gap 94 < p + (s + s) → (advanced ts gap p s ≤ at_or_below ts gap 94) × (at_or_below ts gap 94 < advanced ts gap p s + s)
  unfolding advanced
  step p s o h k =
      choice (λ (n : ℕ). (n ≤ at_or_below ts gap 94) × (at_or_below ts gap 94 < n + s)) (leb (p + s) 94 && le (entry ts (p + s - 1)) gap) (p + s) p
      (λ t.
      let w = both (leb (p + s) 94) _ t in
      let m = leb-true (p + s) 94 w.0 in
      let l = count_above 94 (p + s - 1) (omega arith) (omega arith) w.1 in
      (omega arith, omega arith))
      (λ t. (h, untaken p s o t))

  -- how many it is
  pub point : partition_point ts gap ≡ at_or_below ts gap 94
  unfolding partition_point searched
  point =
      let most = count_most ts gap 94 in
      let a = step 0 64 (omega arith) (omega arith) (omega arith) in
      let b = step _ 32 (omega arith) a.0 a.1 in
      let c = step _ 16 (omega arith) b.0 b.1 in
      let d = step _ 8 (omega arith) c.0 c.1 in
      let e = step _ 4 (omega arith) d.0 d.1 in
      let f = step _ 2 (omega arith) e.0 e.1 in
      let g = step _ 1 (omega arith) f.0 f.1 in
      omega arith

  -- and which: an entry is at or below the gap exactly where it is before that point
  pub point_above : (k : ℕ) → k < 94 → le (entry ts k) gap ≡ true → k < partition_point ts gap
  point_above k h t = rw point (count_above 94 k (omega arith) h t)

  pub point_below : (k : ℕ) → k < partition_point ts gap → le (entry ts k) gap ≡ true
  point_below k h = count_below 94 k (omega arith) (rw point at h)
