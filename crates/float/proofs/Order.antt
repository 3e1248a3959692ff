-- The order of all floats, NaN and the infinities included, as a program's tests say it (std's lemmas say the same of facts `T`); and which rounded
-- sums are no NaN. Assumes nothing.
use Rattle.std.proofs.Common.{◌≡◌, ℕ, zero, suc, ◌+◌, ◌-◌, ◌*◌, ◌^◌, Bool, true, false, cond, not, ◌&&◌, T, ltb, ◌⊎◌, ℤ, refl, inl, inr, ⊎_elim, add_comm, eq-eqb}
use mathlib.Core.Bool.{beq, not-not, false≢true}
use lib.Ieee.{Float, nan, inf, fin, Format, prec, emax, low, binary64, up, down, odd, units, round, neg, sum, add, below, lt, eq, le, ne, is_nan}
use lib.Ieee.Bits.{is_true, is_false}
use lib.Ieee.Compare.{differs_from_itself}
use lib.Ieee.Fits.{round_is}
use lib.Ieee.Scale.{finite}
use Rattle.std.proofs.lemmas.Float as float
use Rattle.std.proofs.lemmas.Float.{T_from_true, T_from_false}
use Rattle.words.proofs.Cases.{clash, refuted}
use Rattle.float.specs.Ops.{◌⊕◌}

-- ---- a value and itself
beq_self : (s : Bool) → beq s s ≡ true
beq_self true = refl
beq_self false = refl

-- all but NaN are equal to themselves
pub eq_self : (x : Float) → eq x x ≡ not (is_nan x)
unfolding eq is_nan
eq_self nan = refl
eq_self (inf s) = beq_self s
eq_self (fin s m e) = rw (eq-eqb (m * up e * down e) (m * up e * down e) refl, beq_self)

-- NaN alone differs from itself
pub ne_self : (x : Float) → ne x x ≡ is_nan x
unfolding ne
ne_self x = rw (eq_self x) (not-not (is_nan x))

-- the same, as the value that it tells
pub nan_alone : (x : Float) → ne x x ≡ true → x ≡ nan
nan_alone x h = differs_from_itself x (T_from_true _ h)

pub is_nan_alone : (x : Float) → is_nan x ≡ true → x ≡ nan
unfolding is_nan
is_nan_alone nan h = refl
is_nan_alone (inf s) h = absurd (false≢true h)
is_nan_alone (fin s m e) h = absurd (false≢true h)

-- ---- below
-- a NaN is below nothing
pub nan_not_lt : (x : Float) → lt nan x ≡ false
unfolding lt
nan_not_lt x = refl

-- nothing is below -infinity
pub none_below : (x : Float) → lt x (inf true) ≡ false
unfolding lt
none_below nan = refl
none_below (inf true) = refl
none_below (inf false) = refl
none_below (fin s m e) = refl

-- nothing is below itself
pub lt_irrefl : (x : Float) → lt x x ≡ false
lt_irrefl x = refuted (lt x x) (λ h. float.lt_irrefl x (T_from_true _ h))

-- below what is below
pub lt_trans : (x y z : Float) → lt x y ≡ true → lt y z ≡ true → lt x z ≡ true
lt_trans x y z h k = is_true _ (float.lt_trans x y z (T_from_true _ h) (T_from_true _ k))

-- of two values one at most is below the other
pub lt_asym : (x y : Float) → lt x y ≡ true → lt y x ≡ false
lt_asym x y h = refuted (lt y x) (λ k. clash (lt_irrefl x) (lt_trans x y x h k))

-- ---- below or equal
-- what is below is below or equal
pub lt-le : (x y : Float) → lt x y ≡ true → le x y ≡ true
lt-le x y h = is_true _ (float.le_of_lt x y (T_from_true _ h))

-- which of the two it is
pub le_or : (x y : Float) → le x y ≡ true → (lt x y ≡ true) ⊎ (eq x y ≡ true)
le_or x y h = ⊎_elim (λ l. inl (is_true _ l)) (λ e. inr (is_true _ e)) (float.lt-or-eq x y (T_from_true _ h))

-- all but NaN are at most themselves
pub le_self : (x : Float) → le x x ≡ not (is_nan x)
unfolding le
le_self x = rw (lt_irrefl x) (eq_self x)

-- what a test finds below or equal, below, or equal, is a number, on either side
pub le_numbers : (x y : Float) → le x y ≡ true → (is_nan x ≡ false) × (is_nan y ≡ false)
le_numbers x y h = (is_false _ (float.le_left x y (T_from_true _ h)), is_false _ (float.le_right x y (T_from_true _ h)))

pub lt_numbers : (x y : Float) → lt x y ≡ true → (is_nan x ≡ false) × (is_nan y ≡ false)
lt_numbers x y h = le_numbers x y (lt-le x y h)

-- of two equal values neither is below the other
pub eq_neither : (x y : Float) → eq x y ≡ true → (lt x y ≡ false) × (lt y x ≡ false)
eq_neither x y h =
    let e = T_from_true _ h in
    (refuted (lt x y) (λ l. float.eq-not_lt x y e (T_from_true _ l)), refuted (lt y x) (λ l. float.eq-not_lt y x (float.eq_flip x y e) (T_from_true _ l)))

-- what is below or equal to something is not above it
pub le_not_lt : (x y : Float) → le x y ≡ true → lt y x ≡ false
le_not_lt x y h = ⊎_elim (lt_asym x y) (λ e. (eq_neither x y e).1) (le_or x y h)

-- what is below is not equal, and the other is not below or equal to it
pub lt_not_eq : (x y : Float) → lt x y ≡ true → (eq x y ≡ false) × (eq y x ≡ false)
lt_not_eq x y h = (refuted (eq x y) (λ e. clash (eq_neither x y e).0 h), refuted (eq y x) (λ e. clash (eq_neither y x e).1 h))

pub lt_not_le : (x y : Float) → lt x y ≡ true → le y x ≡ false
lt_not_le x y h = refuted (le y x) (λ k. clash (le_not_lt y x k) h)

-- of two numbers, where the one is not below the other, the other is below or equal; and where it is not below or equal, the other is below
pub not_lt_le : (x y : Float) → is_nan x ≡ false → is_nan y ≡ false → lt x y ≡ false → le y x ≡ true
not_lt_le x y p q h = is_true _ (float.le_of_not-lt x y (T_from_false _ p) (T_from_false _ q) (T_from_false _ h))

pub not_le_lt : (x y : Float) → is_nan x ≡ false → is_nan y ≡ false → le x y ≡ false → lt y x ≡ true
not_le_lt x y p q h = is_true _ (float.lt_of_not-le x y (T_from_false _ p) (T_from_false _ q) (T_from_false _ h))

-- what is equal to something below is below
pub eq_lt : (x y z : Float) → eq x y ≡ true → lt y z ≡ true → lt x z ≡ true
eq_lt x y z h k = is_true _ (float.lt_of_le_of_lt x y z (float.le_of_eq x y (T_from_true _ h)) (T_from_true _ k))

-- what is below something is below all that is no less
pub lt_le_lt : (x y z : Float) → lt x y ≡ true → le y z ≡ true → lt x z ≡ true
lt_le_lt x y z h k = is_true _ (float.lt_of_lt_of_le x y z (T_from_true _ h) (T_from_true _ k))

-- below or equal to what is below or equal
pub le_le : (x y z : Float) → le x y ≡ true → le y z ≡ true → le x z ≡ true
le_le x y z h k = is_true _ (float.le_trans x y z (T_from_true _ h) (T_from_true _ k))

-- ---- negated values are in the opposite order
below_neg : (s : Bool) (a : ℕ) (t : Bool) (b : ℕ) → below (not s) a (not t) b ≡ below t b s a
below_neg false a false b = refl
below_neg false a true b = rw (add_comm a b)
below_neg true a false b = refl
below_neg true a true b = refl

pub lt_neg : (x y : Float) → lt (neg x) (neg y) ≡ lt y x
unfolding lt neg
lt_neg nan nan = refl
lt_neg nan (inf t) = refl
lt_neg nan (fin t n d) = refl
lt_neg (inf s) nan = refl
lt_neg (inf true) (inf true) = refl
lt_neg (inf true) (inf false) = refl
lt_neg (inf false) (inf true) = refl
lt_neg (inf false) (inf false) = refl
lt_neg (inf s) (fin t n d) = refl
lt_neg (fin s m e) nan = refl
lt_neg (fin s m e) (inf t) = not-not t
lt_neg (fin s m e) (fin t n d) = below_neg s (m * up e * down d) t (n * up d * down e)

-- ---- what is rounded is a finite value or an infinity, with the sign that it was given
cond_has : (P : Float → Type 0) (b : Bool) (x y : Float) → P x → P y → P (cond b x y)
cond_has P true x y h k = h
cond_has P false x y h k = k

module _ (P : Float → Type 0) (s : Bool) (h : (n : ℕ) (d : ℤ) → P (fin s n d)) (k : P (inf s)) where
  odd_has : (d q j l : ℕ) → P (odd d s q j l)
  unfolding odd
  odd_has d zero j l = h _ _
  odd_has d (suc q) j l = h _ _

  units_has : (f : Format) (q j : ℕ) → P (units f s q j)
  unfolding units
  units_has f q j = cond_has P (ltb (q * 2 ^ j) (2 ^ (low f + suc (emax f)))) _ (inf s) (odd_has (suc (prec f)) q j (low f)) k

  pub round_has : (f : Format) (a c : ℕ) → P (round f s a c)
  round_has f a c = rw (round_is f s a c) (units_has f _ _)

-- so nothing is rounded to a NaN
abbrev Number : Float → Type 0
Number x = is_nan x ≡ false

round_number : (f : Format) (s : Bool) (a c : ℕ) → Number (round f s a c)
unfolding is_nan
round_number f s a c = round_has Number s (λ n d. refl) refl f a c

sum_number : (f : Format) (s : Bool) (a : ℕ) (t : Bool) (b c : ℕ) → Number (sum f s a t b c)
unfolding sum
sum_number f s a t b c =
    cond_has Number (beq s t) _ _ (round_number f s (a + b) c)
    (cond_has Number (ltb a b) _ _ (round_number f t (b - a) c) (round_number f (s && ltb b a) (a - b) c))

-- a number with a finite one added is a number
pub not_nan_add : (x c : Float) → T (finite c) → is_nan x ≡ false → is_nan (x ⊕ c) ≡ false
unfolding add is_nan
not_nan_add x nan f h = absurd f
not_nan_add x (inf t) f h = absurd f
not_nan_add nan (fin t n d) f h = h
not_nan_add (inf s) (fin t n d) f h = refl
not_nan_add (fin s m e) (fin t n d) f h = sum_number binary64 s (m * up e * down d) t (n * up d * down e) (down e * down d)
