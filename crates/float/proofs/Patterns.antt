-- What `f64::to_bits` and `f64::from_bits` ask, and a bit pattern without its sign. Assumes nothing.
use Rattle.std.proofs.Common.{◌≡◌, ℕ, ◌*◌, ◌%◌, ◌^◌, ◌<◌, Bool, true, false, not, T, ℤ, refl, ap, ◌∙◌, true≢false, sym, arith}
use lib.Ieee.{Float, nan, inf, fin, neg, fits, is_nan, nan_bits, binary64, of_bits, to_bits}
use lib.Ieee.Fits.{neg-fits}
use lib.Ieee.Bits.{to_bits-lt, of_bits-to_bits}
use Rattle.std.proofs.lemmas.Float.{not_nan_f64_bits}
use Rattle.float.specs.Ops.{bits}
use Rattle.float.specs.Methods.{abs_of}

-- a pattern below the infinity's is no NaN's
pub no_nan : (n : ℕ) → n < 2047 * 2 ^ 52 → T (not (nan_bits binary64 n))
no_nan n h = not_nan_f64_bits n (omega arith)

-- the remainder by 2 ^ 63 takes the sign's bit off
unsigned : (s : Bool) (m : ℕ) (e : ℤ) → to_bits binary64 (fin true m e) < 2 ^ 64 → to_bits binary64 (fin s m e) % 2 ^ 63 ≡ to_bits binary64 (fin false m e)
unfolding to_bits
unsigned true m e h = omega arith
unsigned false m e h = omega arith

unsigned_value : (s : Bool) (m : ℕ) (e : ℤ) → T (fits binary64 (fin true m e)) → T (fits binary64 (fin false m e)) → bits (to_bits binary64 (fin s m e) % 2 ^ 63) ≡ fin false m e
unsigned_value s m e f g = ap bits (unsigned s m e (to_bits-lt binary64 (fin true m e) f)) ∙ of_bits-to_bits binary64 (fin false m e) g

-- the value of a pattern without its sign
pub abs_bits : (x : Float) → fits binary64 x ≡ true → is_nan x ≡ false → bits (to_bits binary64 x % 2 ^ 63) ≡ abs_of x
unfolding abs_of is_nan neg of_bits to_bits
abs_bits nan f h = absurd (true≢false h)
abs_bits (inf true) f h = refl
abs_bits (inf false) f h = refl
abs_bits (fin true m e) f h = unsigned_value true m e (rw f tt) (neg-fits binary64 (fin true m e) (rw f tt))
abs_bits (fin false m e) f h = unsigned_value false m e (neg-fits binary64 (fin false m e) (rw f tt)) (rw f tt)

-- to take the sign off makes no NaN, and mends none
pub abs_nan : (x : Float) → is_nan (abs_of x) ≡ is_nan x
unfolding abs_of is_nan
abs_nan nan = refl
abs_nan (inf s) = refl
abs_nan (fin s m e) = refl

-- and leaves a NaN
pub abs_of-nan : (x : Float) → is_nan x ≡ true → x ≡ abs_of x
unfolding abs_of is_nan
abs_of-nan nan h = refl
abs_of-nan (inf s) h = absurd (true≢false (sym h))
abs_of-nan (fin s m e) h = absurd (true≢false (sym h))
