-- The floor as a whole number: it is what Rust's `x as u64` gives, and it is the floor. Assumes nothing.
use Rattle.std.proofs.Common.{◌≡◌, ◌+◌, ◌-◌, ◌*◌, ◌/◌, ◌^◌, ◌<◌, ◌≤◌, min, true, false, T, refl, true≢false, le_refl, div-lt_iff_lt-mul, le-div_iff_mul-le, arith, ltb-false}
use mathlib.Core.Bool.{false≢true}
use native.Mathlib.Nat.{zero-div}
use lib.Ieee.{Float, nan, inf, fin, up, down, lt, to_unsigned, of_bits}
use lib.Ieee.Fits.{down_pos}
use lib.Ieee.Scale.{finite}
use lib.Ieee.Positive.{num, den}
use Rattle.float.specs.Ops.{bits, plus_zero}
use Rattle.float.specs.Methods.{floor_of}

-- a cast with the fraction dropped and held to the range
pub floor_unsigned : (x : Float) → floor_of x ≡ to_unsigned 64 x
unfolding floor_of to_unsigned
floor_unsigned nan = refl
floor_unsigned (inf true) = refl
floor_unsigned (inf false) = refl
floor_unsigned (fin true m e) = refl
floor_unsigned (fin false m e) = refl

-- the largest whole number n that is not above x, as n ≤ num x / den x < n + 1: for x from 0 up to 2 ^ 64
pub floor_is : (x : Float) → T (finite x) → lt x plus_zero ≡ false → num x < 2 ^ 64 * den x → (floor_of x * den x ≤ num x) × (num x < (floor_of x + 1) * den x)
unfolding floor_of lt of_bits
floor_is nan f h k = absurd f
floor_is (inf s) f h k = absurd f
floor_is (fin true m e) f h k = omega (arith, down_pos e, ltb-false 0 (m * up e * 1 + 0 * 1 * down e) h)
floor_is (fin false m e) f h k =
    let d : 0 < down e = down_pos e in
    let q : m * up e / down e < 2 ^ 64 = (div-lt_iff_lt-mul d).1 k in
    let z : min (m * up e / down e) (2 ^ 64 - 1) ≡ m * up e / down e = omega arith in
    rw z ((le-div_iff_mul-le d).0 (le_refl _), (div-lt_iff_lt-mul d).0 (omega arith))

-- 0 for NaN and for what is not above 0
pub floor_least : (x : Float) → lt plus_zero x ≡ false → 0 ≡ floor_of x
unfolding floor_of lt of_bits
floor_least nan h = refl
floor_least (inf true) h = refl
floor_least (inf false) h = absurd (true≢false h)
floor_least (fin true m e) h = refl
floor_least (fin false m e) h =
    let z : m * up e ≡ 0 = omega (arith, ltb-false (0 * 1 * down e) (m * up e * 1) h) in
    rw (z, zero-div)

-- the largest u64 for what is above 0 and not below 2 ^ 64
pub floor_most : (x : Float) → lt plus_zero x ≡ true → lt x (bits 0x43f0_0000_0000_0000) ≡ false → 2 ^ 64 - 1 ≡ floor_of x
unfolding floor_of lt of_bits
floor_most nan a h = absurd (false≢true a)
floor_most (inf true) a h = absurd (false≢true a)
floor_most (inf false) a h = refl
floor_most (fin true m e) a h = absurd (false≢true a)
floor_most (fin false m e) a h =
    let q : 2 ^ 64 ≤ m * up e / down e = (le-div_iff_mul-le (down_pos e)).1 (omega (arith, ltb-false (m * up e * 1) (1 * 2 ^ 64 * down e) h)) in
    omega arith
