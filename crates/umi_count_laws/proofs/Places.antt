-- Where a finite float lies on a scale of small steps, as a natural number: a rounded sum is within one step of the exact sum, and the order is that of the places.
-- Assumes nothing.
use mathlib.Core.Path.{◌≡◌, refl, ap, ◌∙◌}
use mathlib.Core.Bool.{Bool, true, false, not}
use Prim.Native.Nat.{ℕ, ◌+◌, ◌-◌, ◌*◌, ◌≤◌, ◌<◌}
use native.Mathlib.Nat.{mul_assoc, mul_right_comm, mul_comm, mul-pos}
use native.Mathlib.Omega.{arith}
use lib.Dec.{ltb}
use lib.Ieee.{Float, nan, inf, fin, binary64, up, down, round, neg, sum, add, sub, below, lt, le}
use lib.Ieee.Fits.{down_pos}
use lib.Ieee.Exact.{HasValue}
use borrow.Author.Tests.{ltb-true, ltb-false, lt-ltb}
use Rattle.float.specs.Ops.{◌⊕◌, ◌⊖◌}
use Rattle.words.proofs.Cases.{test, clash}
use Rattle.float.proofs.Order.{le_not_lt}
use Rattle.umi_count_laws.proofs.Rounding.{sum_same, below_same}

-- a and b differ by e at most
abbrev pub Within : ℕ → ℕ → ℕ → Type 0
Within e a b = (a ≤ b + e) × (b ≤ a + e)

-- Places are counted in units as fine as the values need, and a step is e of them. 1 is 4096 steps, and 0 lies as far up as 16384 would, so that no place is negative.
abbrev pub unit : ℕ → ℕ
unit e = 4096 * e

abbrev pub base : ℕ → ℕ
base e = 67108864 * e

-- steps so large that rounding moves no value up to 16384 by more than one
pub record Fine (e : ℕ) : Type 0 where
  pub some : 0 < e
  pub round_near : (s : Bool) (n : ℕ) → n ≤ base e → (g : ℕ) × HasValue (round binary64 s n (unit e)) s g (unit e) × Within e g n

-- x is finite, and its place is v
pub data At (e : ℕ) (x : Float) (v : ℕ) : Type 0 where
  over : (a : ℕ) → HasValue x false a (unit e) → v ≡ base e + a → At e x v
  under : (a : ℕ) → HasValue x true a (unit e) → v + a ≡ base e → At e x v

-- x has a place that, with k added, is within one step of c
abbrev pub Found : ℕ → Float → ℕ → ℕ → Type 0
Found e x k c = (r : ℕ) × At e x r × Within e (r + k) c

-- two values over one denominator
shared : (m d c a n : ℕ) → m * c ≡ a * d → m * n * c ≡ a * (d * n)
shared m d c a n h = mul_right_comm m n c ∙ ap (λ (z : ℕ). z * n) h ∙ mul_assoc a d n

shared_left : (m d c a n : ℕ) → m * c ≡ a * d → m * n * c ≡ a * (n * d)
shared_left m d c a n h = shared m d c a n h ∙ ap (λ (z : ℕ). a * z) (mul_comm d n)

-- a sum and a comparison of two values in units of 1 / c
module _ (c : ℕ) (C : 0 < c) where
  add_is : (x y : Float) (s t : Bool) (a b : ℕ) → HasValue x s a c → HasValue y t b c → x ⊕ y ≡ sum binary64 s a t b c
  unfolding add
  add_is nan y s t a b p q = absurd p
  add_is (inf u) y s t a b p q = absurd p
  add_is (fin u m i) nan s t a b p q = absurd q
  add_is (fin u m i) (inf v) s t a b p q = absurd q
  add_is (fin u m i) (fin v n j) s t a b p q =
      rw (p.0, q.0)
      (sum_same (m * up i * down j) (n * up j * down i) (down i * down j) a b c (mul-pos (down_pos i) (down_pos j)) C
      (shared (m * up i) (down i) c a (down j) p.1) (shared_left (n * up j) (down j) c b (down i) q.1) binary64 s t)

  pub lt_is : (x y : Float) (s t : Bool) (a b : ℕ) → HasValue x s a c → HasValue y t b c → lt x y ≡ below s a t b
  unfolding lt
  lt_is nan y s t a b p q = absurd p
  lt_is (inf u) y s t a b p q = absurd p
  lt_is (fin u m i) nan s t a b p q = absurd q
  lt_is (fin u m i) (inf v) s t a b p q = absurd q
  lt_is (fin u m i) (fin v n j) s t a b p q =
      rw (p.0, q.0)
      (below_same (m * up i * down j) (n * up j * down i) (down i * down j) a b c (mul-pos (down_pos i) (down_pos j)) C
      (shared (m * up i) (down i) c a (down j) p.1) (shared_left (n * up j) (down j) c b (down i) q.1) s t)

-- the other sign
neg_is : (x : Float) (s : Bool) (a c : ℕ) → HasValue x s a c → HasValue (neg x) (not s) a c
unfolding neg
neg_is nan s a c h = h
neg_is (inf t) s a c h = h
neg_is (fin t m i) s a c h = (ap not h.0, h.1)

module _ (e : ℕ) (fine : Fine e) where
  unit_some : 0 < unit e
  unit_some = omega (arith, fine.some)

  -- n units, rounded
  rounded_over : (n : ℕ) → n + e ≤ base e → Found e (round binary64 false n (unit e)) 0 (base e + n)
  rounded_over n h =
      let (g, v, w) = fine.round_near false n (omega arith) in
      (base e + g, over g v refl, omega arith)

  rounded_under : (n : ℕ) → n + e ≤ base e → Found e (round binary64 true n (unit e)) n (base e)
  rounded_under n h =
      let (g, v, w) = fine.round_near true n (omega arith) in
      (base e - g, under g v (omega arith), omega arith)

  -- the four cases of a sum, by the signs
  over-over : (a b : ℕ) → a + b + e ≤ base e → Found e (sum binary64 false a false b (unit e)) 0 (base e + (a + b))
  unfolding sum
  over-over a b h = rounded_over (a + b) h

  under_under : (a b : ℕ) → a + b + e ≤ base e → Found e (sum binary64 true a true b (unit e)) (a + b) (base e)
  unfolding sum
  under_under a b h = rounded_under (a + b) h

  over_under : (a b : ℕ) → a + e ≤ base e + b → b + e ≤ base e + a → Found e (sum binary64 false a true b (unit e)) b (base e + a)
  unfolding sum
  over_under a b h k =
      test (ltb a b)
      (λ t.
      let l = ltb-true a b t in
      let (r, p, w) = rounded_under (b - a) (omega arith) in
      rw t (r, p, omega arith))
      (λ t.
      let l = ltb-false a b t in
      let (r, p, w) = rounded_over (a - b) (omega arith) in
      rw t (r, p, omega arith))

  under_over : (a b : ℕ) → a + e ≤ base e + b → b + e ≤ base e + a → Found e (sum binary64 true a false b (unit e)) a (base e + b)
  unfolding sum
  under_over a b h k =
      test (ltb a b)
      (λ t.
      let l = ltb-true a b t in
      let (r, p, w) = rounded_over (b - a) (omega arith) in
      rw t (r, p, omega arith))
      (λ t.
      let l = ltb-false a b t in
      test (ltb b a)
      (λ u.
      let (r, p, w) = rounded_under (a - b) (omega arith) in
      rw (t, u) (r, p, omega arith))
      (λ u.
      let m = ltb-false b a u in
      let (r, p, w) = rounded_over (a - b) (omega arith) in
      rw (t, u) (r, p, omega arith)))

  -- a rounded sum
  pub added : {x y : Float} {v w : ℕ} → At e x v → At e y w → v + w + e ≤ 3 * base e → base e + e ≤ v + w → Found e (x ⊕ y) (base e) (v + w)
  added {x} {y} (over a p i) (over b q j) h k =
      let (r, l, n) = over-over a b (omega arith) in
      rw (add_is (unit e) unit_some x y false false a b p q) (r, l, omega arith)
  added {x} {y} (over a p i) (under b q j) h k =
      let (r, l, n) = over_under a b (omega arith) (omega arith) in
      rw (add_is (unit e) unit_some x y false true a b p q) (r, l, omega arith)
  added {x} {y} (under a p i) (over b q j) h k =
      let (r, l, n) = under_over a b (omega arith) (omega arith) in
      rw (add_is (unit e) unit_some x y true false a b p q) (r, l, omega arith)
  added {x} {y} (under a p i) (under b q j) h k =
      let (r, l, n) = under_under a b (omega arith) in
      rw (add_is (unit e) unit_some x y true true a b p q) (r, l, omega arith)

  -- a value turned round the place of 0
  negated : {y : Float} {w u : ℕ} → At e y w → w + u ≡ 2 * base e → At e (neg y) u
  negated {y} (over b q j) h = under b (neg_is y false b (unit e) q) (omega arith)
  negated {y} (under b q j) h = over b (neg_is y true b (unit e) q) (omega arith)

  -- a rounded difference
  pub less : {x y : Float} {v w : ℕ} → At e x v → At e y w → w ≤ 2 * base e → v + e ≤ w + base e → w + e ≤ v + base e → Found e (x ⊖ y) w (v + base e)
  unfolding sub
  less {x} {y} {v} {w} p q m h k =
      let u = 2 * base e - w in
      let (r, l, n) = added {x = x} {y = neg y} {v = v} {w = u} p (negated {y = y} {w = w} {u = u} q (omega arith)) (omega arith) (omega arith) in
      (r, l, omega arith)

  -- the order is that of the places
  pub lt_places : {x y : Float} {v w : ℕ} → At e x v → At e y w → v < w → lt x y ≡ true
  lt_places {x} {y} (over a p i) (over b q j) h = rw (lt_is (unit e) unit_some x y false false a b p q) (lt-ltb a b (omega arith))
  lt_places {x} {y} (over a p i) (under b q j) h = absurd (omega arith)
  lt_places {x} {y} (under a p i) (over b q j) h = rw (lt_is (unit e) unit_some x y true false a b p q) (lt-ltb 0 (a + b) (omega arith))
  lt_places {x} {y} (under a p i) (under b q j) h = rw (lt_is (unit e) unit_some x y true true a b p q) (lt-ltb b a (omega arith))

  pub le_places : {x y : Float} {v w : ℕ} → At e x v → At e y w → le x y ≡ true → v ≤ w
  le_places {x} {y} {v} {w} p q h =
      test (ltb w v) (λ t. clash (le_not_lt x y h) (lt_places q p (ltb-true w v t))) (ltb-false w v)
