-- The middle of two gaps from 0 to 256, each of its operations rounded, lies between the two. Assumes nothing.
use mathlib.Core.Path.{◌≡◌, refl, sym, ap}
use mathlib.Core.Bool.{true, false, ◌&&◌, false≢true}
use Prim.Native.Nat.{ℕ, zero, suc, ◌+◌, ◌*◌, ◌%◌, ◌^◌, ◌≤◌, ◌<◌}
use native.Mathlib.Nat.{le_trans, le_of_eq, lt_of_le_of_lt, mul-pos, mul-le-mul_right, mul-lt-mul_of_pos_right, zero-mul, pow-suc}
use native.Mathlib.Omega.{arith}
use lib.IntN.{ℤ, pos, negsuc}
use lib.Dec.{T, leb, ltb, eqb, le→leb, leb→le, lt→ltb, lit<}
use lib.Ieee.{Float, fin, binary64, up, down, round, sum, add, mul, lt, le, fits, of_bits}
use lib.Ieee.Fits.{and_i, and_l, and_r, down_pos, round-fits}
use lib.Ieee.Bits.{is_true}
use lib.Ieee.Order.{round_mono}
use lib.Ieee.Positive.{num, den, den_pos, through}
use borrow.Author.Tests.{ltb-false}
use Rattle.float.specs.Ops.{◌⊕◌, ◌⊗◌, half}
use Rattle.float.proofs.Order.{le_not_lt, le_le, round_has}
use Rattle.float.proofs.Sums.{round_held}
use Rattle.gap_tables.specs.declared.thresholds.Ends.{Ends}
use Rattle.gap_tables.specs.Thresholds.{gap256, middle}

-- ---- the finite values with the sign +, each a fraction num / den
pub data Plus : Float → Type 0 where
  plus : (m : ℕ) (e : ℤ) → T (fits binary64 (fin false m e)) → Plus (fin false m e)

pub plus_256 : Plus gap256
unfolding of_bits fits
plus_256 = plus 1 (pos 8) tt

-- z is one, and lies between x and y
pub record Between (x y z : Float) : Type 0 where
  pub is_plus : Plus z
  pub above : le x z ≡ true
  pub below : le z y ≡ true

-- their order is that of the fractions
fractions_order : {x y : Float} → Plus x → Plus y → le x y ≡ true → num x * den y ≤ num y * den x
unfolding lt
fractions_order (plus m e f) (plus n d g) h = ltb-false (n * up d * down e) (m * up e * down d) (le_not_lt (fin false m e) (fin false n d) h)

-- ---- rounding
-- the fraction of such a value is rounded to the value
round_own : {x : Float} → Plus x → round binary64 false (num x * 1) (den x * 1) ≡ x
round_own (plus m e f) = round_held binary64 false m e 1 (lit< tt) f

-- what is rounded to no more than such a value is one too
round_plus : {y : Float} → Plus y → (a c : ℕ) → le (round binary64 false a c) y ≡ true → Plus (round binary64 false a c)
unfolding le
round_plus (plus n d g) a c h =
    round_has (λ z. T (fits binary64 z) → le z (fin false n d) ≡ true → Plus z) false (λ m e f k. plus m e f) (λ f k. absurd (false≢true k))
    binary64 a c (round-fits binary64 false a c) h

-- a fraction between two of them is rounded to one between them
round_between : {x y : Float} → Plus x → Plus y → (a c : ℕ) → 0 < c → num x * c ≤ a * den x → a * den y ≤ num y * c → Between x y (round binary64 false a c)
round_between {x} {y} p q a c C h k =
    let over = rw (round_own p) at (round_mono binary64 (num x * 1) (den x * 1) a c (mul-pos (den_pos x) (lit< tt)) C (omega arith)) in
    let under = rw (round_own q) at (round_mono binary64 a c (num y * 1) (den y * 1) C (mul-pos (den_pos y) (lit< tt)) (omega arith)) in
    record { is_plus = round_plus q a c (is_true _ under); above = is_true _ over; below = is_true _ under }

-- ---- twice a value up to 256 is a value
abbrev Twice : Float → Type 0
Twice x = (u : Float) × Plus u × (num u * den x ≡ 2 * num x * den u)

-- the same digits with an exponent that is no less fine are a value, up to 512
same_digits : (m : ℕ) (e d : ℤ) → T (fits binary64 (fin false (suc m) e)) → down d ≤ down e → suc m * up d ≤ 512 * down d → Plus (fin false (suc m) d)
unfolding fits
same_digits m e d f g h =
    let digits = eqb (suc m % 2) 1 && ltb (suc m) (2 ^ 53) in
    let fine = leb (down e) (2 ^ 1074) in
    let t = and_l (digits && fine) (ltb (suc m * up e) (2 ^ 1024 * down e)) f in
    let small = le→leb (down d) (2 ^ 1074) (le_trans g (leb→le (down e) (2 ^ 1074) (and_r digits fine t))) in
    let under = lt→ltb (suc m * up d) (2 ^ 1024 * down d) (lt_of_le_of_lt h (mul-lt-mul_of_pos_right (lit< tt) (down_pos d))) in
    plus (suc m) d (and_i (digits && leb (down d) (2 ^ 1074)) _ (and_i digits _ (and_l digits fine t) small) under)

twice : {x : Float} → Plus x → num x ≤ 256 * den x → Twice x
twice (plus zero e f) h = (fin false zero e, plus zero e f, simp zero-mul)
twice (plus (suc m) (pos t) f) h =
    (fin false (suc m) (pos (suc t)), same_digits m (pos t) (pos (suc t)) f (omega arith) (rw pow-suc (omega arith)), rw pow-suc (omega arith))
twice (plus (suc m) (negsuc zero) f) h = (fin false (suc m) (pos zero), same_digits m (negsuc zero) (pos zero) f (omega arith) (omega arith), omega arith)
twice (plus (suc m) (negsuc (suc t)) f) h =
    let p : down (negsuc (suc t)) ≡ down (negsuc t) * 2 = pow-suc 2 (suc t) in
    (fin false (suc m) (negsuc t), same_digits m (negsuc (suc t)) (negsuc t) f (omega arith) (omega arith), rw pow-suc (omega arith))

-- ---- the middle
-- a sum and a half are fractions, rounded
sum_is : {x y : Float} → Plus x → Plus y → x ⊕ y ≡ round binary64 false (num x * den y + num y * den x) (den x * den y)
unfolding add sum
sum_is (plus m e f) (plus n d g) = refl

half_is : {x : Float} → Plus x → half ⊗ x ≡ round binary64 false (1 * num x) (2 * den x)
unfolding mul of_bits
half_is (plus m e f) = refl

-- the sum lies between twice the one and twice the other, so its half lies between the two
half_between : {x y : Float} → Plus x → Plus y → Twice x → Twice y → num x * den y ≤ num y * den x → Between x y (half ⊗ (x ⊕ y))
half_between {x} {y} p q (u, pu, eu) (v, pv, ev) h =
    let low : num u * (den x * den y) ≤ (num x * den y + num y * den x) * den u = omega (arith, mul-le-mul_right (den u) h, ap (λ n. n * den y) eu) in
    let high : (num x * den y + num y * den x) * den v ≤ num v * (den x * den y) = omega (arith, mul-le-mul_right (den v) h, ap (λ n. n * den x) ev) in
    let s : Between u v (x ⊕ y) = rw (sum_is p q) (round_between pu pv _ _ (mul-pos (den_pos x) (den_pos y)) low high) in
    let a = num (x ⊕ y) in
    let c = den (x ⊕ y) in
    let least = through (2 * num x) (num u) a (den x) (den u) c (den_pos u) (le_of_eq (sym eu)) (fractions_order pu s.is_plus s.above) in
    let most = through a (num v) (2 * num y) c (den v) (den y) (den_pos v) (fractions_order s.is_plus pv s.below) (le_of_eq ev) in
    rw (half_is s.is_plus) (round_between p q (1 * a) (2 * c) (mul-pos (lit< tt) (den_pos (x ⊕ y))) (omega arith) (omega arith))

-- so the middle of two ends in order, up to 256, lies between them
pub middle_between : (e : Ends) → Plus e.low → Plus e.high → le e.low e.high ≡ true → le e.high gap256 ≡ true → Between e.low e.high (middle e)
unfolding middle of_bits
middle_between e p q h k =
    let a = twice p (omega (arith, fractions_order p plus_256 (le_le e.low e.high gap256 h k))) in
    let b = twice q (omega (arith, fractions_order q plus_256 k)) in
    half_between p q a b (fractions_order p q h)
