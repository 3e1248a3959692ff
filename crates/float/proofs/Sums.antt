-- An f64 with something added that is not below 0: the sum is not below it. And the difference of two equal values is a zero. Assumes nothing.
use Rattle.std.proofs.Common.{◌≡◌, ℕ, zero, suc, ◌+◌, ◌-◌, ◌*◌, ◌%◌, ◌^◌, ◌<◌, ◌≤◌, Bool, true, false, cond, not, ◌&&◌, ◌||◌, T, eqb, ltb, leb, ◌⊎◌, ℤ, pos, negsuc, sym, refl, ap, ◌∙◌, inl, inr, true≢false, le_refl, le_of_suc-le-suc, le-add_right, mul-le-mul_right, mul_assoc, add_comm, lt_of_mul-lt-mul_right, mul-lt-mul_of_pos_right, mul-pos, one-mul, lt_of_not-le, zero-mul, mul-one, mul_right_comm, not-le_of_lt, sub-le, arith, ltb→lt, leb→le, pow_pos, pow-add, ltb-false, le-ltb, eqb-true}
use mathlib.Core.Bool.{beq, false≢true}
use native.Mathlib.Nat.{sub_self}
use lib.Pow.{pow-lt}
use lib.Ieee.{Float, nan, inf, fin, Format, binary64, prec, emax, low, up, down, odd, units, round, neg, sum, add, sub, div, lt, eq, fits, of_bits, to_bits}
use lib.Ieee.Digits.{back}
use lib.Ieee.Fits.{down_pos, round_is, round-fits}
use lib.Ieee.Bits.{is_true, of_bits-to_bits}
use lib.Ieee.Exact.{HasValue, round_exact}
use lib.Ieee.Nearest.{div_same}
use lib.Ieee.Order.{round_mono}
use lib.Ieee.Scale.{round_same, finite}
use Rattle.float.specs.Ops.{◌⊕◌, ◌⊖◌, plus_zero, plus_infinity}
use Rattle.words.proofs.Cases.{both}
use Rattle.float.proofs.Zero.{round-zero}
use Rattle.float.proofs.Order.{none_below, le_not_lt, lt_neg, round_has}

-- ---- a value that the format holds is rounded to itself
-- `fits` is four tests: the last three
tests : (a b c d : Bool) → T (a && b && c && d) → T b × T c × T d
tests true true true d t = (tt, tt, t)
tests true true false d t = absurd t
tests true false c d t = absurd t
tests false b c d t = absurd t

-- the order of powers is that of the exponents
exponent : (a b : ℕ) → 2 ^ a ≤ 2 ^ b → a ≤ b
exponent a b h = le_of_suc-le-suc (lt_of_not-le (λ g. not-le_of_lt (pow-lt g) h))

-- 2 ^ e in units of 2 ^ -l: it is 2 ^ k of them
units_of : (l : ℕ) (e : ℤ) → down e ≤ 2 ^ l → (k : ℕ) × (up e * 2 ^ l ≡ 2 ^ k * down e)
units_of l (pos t) h = (t + l, rw (pow-add, mul-one))
units_of l (negsuc t) h = (l - suc t, rw (one-mul, ← pow-add, back l (suc t) (exponent (suc t) l h)))

module _ (f : Format) where
  -- its fraction rounded has its value
  round_value : (s : Bool) (m : ℕ) (e : ℤ) → T (fits f (fin s m e)) → HasValue (round f s (m * up e) (down e)) s (m * up e) (down e)
  unfolding fits
  round_value s zero e h = round_exact f s (0 * up e) (down e) 0 0 (down_pos e) (pow_pos (prec f)) (pow_pos _) (simp zero-mul)
  round_value s (suc m) e h =
      let t = tests (eqb (suc m % 2) 1) (ltb (suc m) (2 ^ prec f)) (leb (down e) (2 ^ low f)) (ltb (suc m * up e) (2 ^ suc (emax f) * down e)) h in
      let (k, u) = units_of (low f) e (leb→le (down e) (2 ^ low f) t.1) in
      let i : suc m * up e * 2 ^ low f ≡ suc m * 2 ^ k * down e = simp (mul_assoc, u) in
      let b : suc m * up e * 2 ^ low f < 2 ^ suc (emax f) * down e * 2 ^ low f = mul-lt-mul_of_pos_right (ltb→lt (suc m * up e) (2 ^ suc (emax f) * down e) t.2) (pow_pos (low f)) in
      let c : suc m * 2 ^ k * down e < 2 ^ (low f + suc (emax f)) * down e = rw (← i, add_comm (low f), pow-add, mul_right_comm (2 ^ suc (emax f))) b in
      round_exact f s (suc m * up e) (down e) (suc m) k (down_pos e) (ltb→lt (suc m) (2 ^ prec f) t.0) (lt_of_mul-lt-mul_right (down e) c) i

  -- what has its sign and value has its bits
  bits_same : (x : Float) (s : Bool) (m : ℕ) (e : ℤ) → HasValue x s (m * up e) (down e) → to_bits f x ≡ to_bits f (fin s m e)
  unfolding to_bits
  bits_same nan s m e v = absurd v
  bits_same (inf t) s m e v = absurd v
  bits_same (fin t n d) s m e v =
      let q : n * up d * 2 ^ low f * down e ≡ m * up e * 2 ^ low f * down d = rw (mul_right_comm (n * up d) (2 ^ low f), v.1, mul_right_comm (m * up e) (down d)) in
      rw (v.0, div_same (n * up d * 2 ^ low f) (down d) (m * up e * 2 ^ low f) (down e) (down_pos d) (down_pos e) q)

  -- so its fraction rounded is the value itself, over any denominator
  pub round_held : (s : Bool) (m : ℕ) (e : ℤ) (k : ℕ) → 0 < k → T (fits f (fin s m e)) → round f s (m * up e * k) (down e * k) ≡ fin s m e
  round_held s m e k K h =
      let r = round f s (m * up e) (down e) in
      round_same f s (m * up e * k) (down e * k) (m * up e) (down e) (mul-pos (down_pos e) K) (down_pos e) (rw (mul_right_comm (m * up e) k, mul_assoc (m * up e)))
      ∙ sym (of_bits-to_bits f r (round-fits f s (m * up e) (down e)))
      ∙ ap (of_bits f) (bits_same r s m e (round_value s m e h))
      ∙ of_bits-to_bits f (fin s m e) h

-- ---- a rounded fraction with the sign - is the one with the sign + negated
cond_neg : (b : Bool) (x y : Float) → cond b (neg x) (neg y) ≡ neg (cond b x y)
cond_neg true x y = refl
cond_neg false x y = refl

odd_neg : (d q k l : ℕ) → odd d true q k l ≡ neg (odd d false q k l)
unfolding odd neg
odd_neg d zero k l = refl
odd_neg d (suc q) k l = refl

units_neg : (f : Format) (q k : ℕ) → units f true q k ≡ neg (units f false q k)
unfolding units neg
units_neg f q k = rw odd_neg (cond_neg (ltb (q * 2 ^ k) (2 ^ (low f + suc (emax f)))) (odd (suc (prec f)) false q k (low f)) (inf false))

pub round_neg : (f : Format) (a c : ℕ) → round f true a c ≡ neg (round f false a c)
round_neg f a c = rw (round_is f true a c, round_is f false a c) (units_neg f _ _)

-- ---- the order of the rounded a / c and b / c
module _ (a b c : ℕ) where
  -- for a ≤ b
  grows : 0 < c → a ≤ b → lt (round binary64 false b c) (round binary64 false a c) ≡ false
  grows C h = le_not_lt (round binary64 false a c) (round binary64 false b c) (is_true _ (round_mono binary64 a c b c C C (mul-le-mul_right c h)))

  -- and with the sign -, the other way round
  shrinks : 0 < c → a ≤ b → lt (round binary64 true a c) (round binary64 true b c) ≡ false
  shrinks C h = rw (round_neg binary64 a c, round_neg binary64 b c, lt_neg) (grows C h)

  -- with the sign + it is not below the one with the sign -
  apart : lt (round binary64 false a c) (round binary64 true b c) ≡ false
  unfolding lt
  apart =
      round_has (λ y. lt (round binary64 false a c) y ≡ false) true
      (λ m e. round_has (λ x. lt x (fin true m e) ≡ false) false (λ n d. refl) refl binary64 a c)
      (none_below (round binary64 false a c)) binary64 b c

-- ---- the sum
-- of ±a / c and b / c, or of ±a / c and -0: it is not below the first
sum_not_below : (a b c : ℕ) → 0 < c → (s t : Bool) → (T t → b ≡ 0) → lt (sum binary64 s a t b c) (round binary64 s a c) ≡ false
unfolding sum
sum_not_below a b c C true true z = shrinks (a + b) a c C (omega (arith, z tt))
sum_not_below a b c C true false z = go (ltb a b) (ltb b a)
  where
    go : (p q : Bool) → lt (cond p (round binary64 false (b - a) c) (round binary64 q (a - b) c)) (round binary64 true a c) ≡ false
    go true q = apart (b - a) a c
    go false true = shrinks (a - b) a c C (sub-le a b)
    go false false = apart (a - b) a c
sum_not_below a b c C false true z = rw (le-ltb a b (omega (arith, z tt))) (grows a (a - b) c C (omega (arith, z tt)))
sum_not_below a b c C false false z = grows a (a + b) c C (le-add_right a b)

-- of an f64 and what is not below 0: it is not below the first, and may be NaN
pub add_not_below : (x z : Float) → T (fits binary64 x) → lt z plus_zero ≡ false → lt (x ⊕ z) x ≡ false
unfolding lt add of_bits
add_not_below nan z f h = refl
add_not_below (inf true) z f h = none_below (inf true ⊕ z)
add_not_below (inf false) nan f h = refl
add_not_below (inf false) (inf true) f h = refl
add_not_below (inf false) (inf false) f h = refl
add_not_below (inf false) (fin t n d) f h = refl
add_not_below (fin s m e) nan f h = refl
add_not_below (fin s m e) (inf true) f h = h
add_not_below (fin s m e) (inf false) f h = refl
add_not_below (fin s m e) (fin true n d) f h =
    let z : n * up d ≡ 0 = omega (arith, ltb-false 0 (n * up d * 1 + 0 * 1 * down d) h) in
    rw (← round_held binary64 s m e (down d) (down_pos d) f)
    (sum_not_below (m * up e * down d) (n * up d * down e) (down e * down d) (mul-pos (down_pos e) (down_pos d)) s true (λ t. rw (z, zero-mul)))
add_not_below (fin s m e) (fin false n d) f h =
    rw (← round_held binary64 s m e (down d) (down_pos d) f)
    (sum_not_below (m * up e * down d) (n * up d * down e) (down e * down d) (mul-pos (down_pos e) (down_pos d)) s false absurd)

-- what is not below something above -infinity is not -infinity
lowest : (w x : Float) → lt (inf true) x ≡ true → lt w x ≡ false → eq w (inf true) ≡ false
unfolding eq
lowest nan x p h = refl
lowest (inf true) x p h = absurd (true≢false (sym p ∙ h))
lowest (inf false) x p h = refl
lowest (fin s m e) x p h = refl

-- of an f64 other than -infinity and what is not below 0: it is not -infinity
pub add_not_minus_infinity : (x z : Float) → T (fits binary64 x) → eq x (neg plus_infinity) ≡ false → lt z plus_zero ≡ false → eq (x ⊕ z) (neg plus_infinity) ≡ false
unfolding eq lt neg add div of_bits
add_not_minus_infinity nan z f g h = refl
add_not_minus_infinity (inf true) z f g h = absurd (true≢false g)
add_not_minus_infinity (inf false) z f g h = lowest (inf false ⊕ z) (inf false) refl (add_not_below (inf false) z f h)
add_not_minus_infinity (fin s m e) z f g h = lowest (fin s m e ⊕ z) (fin s m e) refl (add_not_below (fin s m e) z f h)

-- ---- the difference of equals
-- +0 or -0
abbrev Zero : Float → Type 0
Zero x = (x ≡ plus_zero) ⊎ (x ≡ neg plus_zero)

-- ±a / c less itself, and a zero less the other zero
zero_sum : (s t : Bool) (a c : ℕ) → 0 < c → (beq s t || eqb a 0) ≡ true → Zero (sum binary64 t a (not s) a c)
unfolding sum neg of_bits
zero_sum true true a c C k = inl (rw (le-ltb a a (le_refl a), sub_self) (round-zero false c C))
zero_sum true false a c C k = inl (rw (eqb-true a 0 k) (round-zero false c C))
zero_sum false true a c C k = inr (rw (eqb-true a 0 k) (round-zero true c C))
zero_sum false false a c C k = inl (rw (le-ltb a a (le_refl a), sub_self) (round-zero false c C))

-- it is a zero
pub equal_difference : (a b : Float) → T (finite a) → eq a b ≡ true → (b ⊖ a ≡ plus_zero) ⊎ (b ⊖ a ≡ neg plus_zero)
unfolding eq sub
equal_difference nan b f h = absurd f
equal_difference (inf s) b f h = absurd f
equal_difference (fin s m e) nan f h = absurd (false≢true h)
equal_difference (fin s m e) (inf t) f h = absurd (false≢true h)
equal_difference (fin s m e) (fin t n d) f h =
    let (p, k) = both (eqb (m * up e * down d) (n * up d * down e)) _ h in
    rw (← eqb-true (m * up e * down d) (n * up d * down e) p) (zero_sum s t (m * up e * down d) (down d * down e) (mul-pos (down_pos d) (down_pos e)) k)
