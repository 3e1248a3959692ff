-- How far a rounded fraction lies from the fraction, and that sums and comparisons see only the values of their operands. Assumes nothing.
use mathlib.Core.Path.{◌≡◌, refl, sym, ap, ◌∙◌, subst}
use mathlib.Core.Bool.{Bool, true, false, ◌&&◌}
use Prim.Native.Nat.{ℕ, suc, ◌+◌, ◌-◌, ◌*◌, ◌/◌, ◌%◌, ◌^◌, ◌≤◌, ◌<◌, compare}
use native.Mathlib.Nat.{le_trans, le_of_eq, lt_of_le_of_lt, mul_assoc, mul_right_comm, mul-pos, mul-le-mul, mul-le-mul_right, mul-lt-mul_of_pos_right, mul_comm, mul-sub, le_of_mul-le-mul_right, lt_of_mul-lt-mul_right, zero-mul, div-add-mod', mod-lt, div-lt_iff_lt-mul, div-div-eq-div-mul}
use native.Mathlib.Omega.{arith}
use lib.Dec.{ltb}
use lib.Pow.{pow-add, pow_pos, pow_mono, pow-lt}
use lib.Ieee.{Float, nan, inf, fin, Format, prec, emax, low, up, down, size, units, round, sum, below}
use lib.Ieee.Digits.{size-le}
use lib.Ieee.Fits.{nearest-le, kept-lt, round_is}
use lib.Ieee.Exact.{HasValue, units_val}
use lib.Ieee.Nearest.{closest, nearest-ge}
use lib.Ieee.Scale.{round_same}
use borrow.Author.Tests.{ltb-true, ltb-false, lt-ltb, le-ltb}
use Rattle.words.proofs.Cases.{test}

-- ---- a fraction rounded

-- the same size in smaller units
scaled : (x : Float) (s : Bool) (a c w : ℕ) → HasValue x s a c → HasValue x s (a * w) (c * w)
scaled nan s a c w h = h
scaled (inf t) s a c w h = h
scaled (fin t m e) s a c w h = (h.0, sym (mul_assoc (m * up e) c w) ∙ ap (λ (z : ℕ). z * w) h.1 ∙ mul_right_comm a (down e) w)

-- a number c that is q or the next one, where q is the whole part of n / u
between : (c q r u n : ℕ) → c * u ≤ suc q * u → q * u ≤ c * u → q * u + r ≡ n → r < u → (c * u ≤ n + u) × (n ≤ c * u + u)
between c q r u n a b e l = omega arith

-- so the nearest whole number is at most one away
closest_near : (n u : ℕ) → 0 < u → (closest n u * u ≤ n + u) × (n ≤ closest n u * u + u)
closest_near n u U =
    let o = compare (n % u * 2) u in
    between (closest n u) (n / u) (n % u) u n (mul-le-mul_right u (nearest-le (n / u) o)) (mul-le-mul_right u (nearest-ge (n / u) o)) (div-add-mod' n u) (mod-lt n U)

-- products in another order
across : (n x w l : ℕ) → n < x * w → 0 < l → n * l < x * (l * w)
across n x w l h L = omega (arith, mul-lt-mul_of_pos_right h L)

-- no more digits are dropped than there are above the p that are kept
dropped : (z p j : ℕ) → z ≤ p + j → z - p ≤ j
dropped z p j h = omega arith

-- q * k * w and n, from their multiples by l
unscaled : (q k w l n j : ℕ) → 0 < l → k * w ≤ j → (q * (l * w * k) ≤ n * l + l * w * k) × (n * l ≤ q * (l * w * k) + l * w * k)
    → (q * k * w ≤ n + j) × (n ≤ q * k * w + j)
unscaled q k w l n j L h b =
    let x : q * k * w ≤ n + k * w = le_of_mul-le-mul_right {k = l} (omega (arith, b.0)) L in
    let y : n ≤ q * k * w + k * w = le_of_mul-le-mul_right {k = l} (omega (arith, b.1)) L in
    (omega arith, omega arith)

-- n units, of which w make up the format's smallest value, rounded: within 2 ^ j of those values where it is below 2 ^ (prec + j) of them
module _ (f : Format) (w j : ℕ) (W : 0 < w) (most : prec f + j < low f + suc (emax f)) where
  pub near : (s : Bool) (n : ℕ) → n < 2 ^ (prec f + j) * w
      → (g : ℕ) × HasValue (round f s n (2 ^ low f * w)) s g (2 ^ low f * w) × (g ≤ n + 2 ^ j * w) × (n ≤ g + 2 ^ j * w)
  near s n h =
      let l = 2 ^ low f in
      let L : 0 < l = pow_pos (low f) in
      let c = l * w in
      let C : 0 < c = mul-pos L W in
      let v = n * l in
      let k = size (v / c) - prec f in
      let K : k ≤ j = dropped (size (v / c)) (prec f) j (size-le (v / c) (prec f + j) ((div-lt_iff_lt-mul C).1 (across n (2 ^ (prec f + j)) w l h L))) in
      let u = c * 2 ^ k in
      let q = closest v u in
      let few : q ≤ 2 ^ prec f =
      le_trans (nearest-le (v / u) (compare (v % u * 2) u)) (subst (λ (x : ℕ). x < 2 ^ prec f) (div-div-eq-div-mul v c (2 ^ k)) (kept-lt (prec f) (v / c))) in
      let fine : q * 2 ^ k < 2 ^ (low f + suc (emax f)) =
      lt_of_le_of_lt (le_trans (mul-le-mul few (pow_mono K)) (le_of_eq (sym (pow-add 2 (prec f) j)))) (pow-lt most) in
      let b = unscaled q (2 ^ k) w l n (2 ^ j * w) L (mul-le-mul_right w (pow_mono K)) (closest_near v u (mul-pos C (pow_pos k))) in (
        q * 2 ^ k * w,
        subst (λ (x : Float). HasValue x s (q * 2 ^ k * w) c) (sym (round_is f s n c)) (scaled (units f s q k) s (q * 2 ^ k) l w (units_val f s q k fine)),
        b.0,
        b.1,
      )

-- ---- by the values alone: A / C is a / c, and B / C is b / c
module _ (A B C a b c : ℕ) (D : 0 < C) (d : 0 < c) (p : A * c ≡ a * C) (q : B * c ≡ b * C) where
  -- so the one is below the other where it is, and sums and differences are equal
  ltb_same : ltb A B ≡ ltb a b
  ltb_same =
      test (ltb a b)
      (λ t. rw t (lt-ltb A B (lt_of_mul-lt-mul_right c (rw (p, q) (mul-lt-mul_of_pos_right (ltb-true a b t) D)))))
      (λ t. rw t (le-ltb A B (le_of_mul-le-mul_right {k = c} (rw (p, q) (mul-le-mul_right C (ltb-false a b t))) d)))

  plus_same : (A + B) * c ≡ (a + b) * C
  plus_same = omega arith

  minus_same : (A - B) * c ≡ (a - b) * C
  minus_same = mul_comm (A - B) c ∙ mul-sub c A B ∙ rw (mul_comm c A, mul_comm c B, p, q, mul_comm a C, mul_comm b C) (sym (mul-sub C a b)) ∙ mul_comm C (a - b)

module _ (A B C a b c : ℕ) (D : 0 < C) (d : 0 < c) (p : A * c ≡ a * C) (q : B * c ≡ b * C) where
  -- the exact sum, rounded
  pub sum_same : (f : Format) (s t : Bool) → sum f s A t B C ≡ sum f s a t b c
  unfolding sum
  sum_same f s t =
      rw (
        ltb_same A B C a b c D d p q,
        ltb_same B A C b a c D d q p,
        round_same f s (A + B) C (a + b) c D d (plus_same A B C a b c D d p q),
        round_same f t (B - A) C (b - a) c D d (minus_same B A C b a c D d q p),
        round_same f (s && ltb b a) (A - B) C (a - b) c D d (minus_same A B C a b c D d p q),
      )

  -- the order
  pub below_same : (s t : Bool) → below s A t B ≡ below s a t b
  below_same false false = ltb_same A B C a b c D d p q
  below_same false true = refl
  below_same true false = ltb_same 0 (A + B) C 0 (a + b) c D d (zero-mul c ∙ sym (zero-mul C)) (plus_same A B C a b c D d p q)
  below_same true true = ltb_same B A C b a c D d q p
