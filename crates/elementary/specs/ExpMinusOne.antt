-- exp(x) - 1: for a y near 0 it is y + y²/2 and a correction; a little further below 0 it is (exp(y) - 1)/2 - 1/2 at y = x + ln 2.
use Rattle.std.specs.Prelude.{Float}
use Rattle.std.specs.Float.Ieee.{eq, neg}
use Rattle.elementary.specs.declared.exp_minus_one.Correction.{Correction}
use Rattle.float.specs.Ops.{◌⊕◌, ◌⊖◌, ◌⊗◌, ◌⊘◌, bits, plus_zero, one, half, three, six}
use Rattle.std.specs.Prelude.{if◌then◌else◌}
use Rattle.float.specs.Methods.{between_of}
use Rattle.elementary.specs.Fma.{fma_small_product_of, fma_large_product_of}
use Rattle.elementary.specs.Exp.{exp_of}

-- the number just above 1
abbrev pub above_one : Float
above_one = bits 0x3ff0_0000_0000_0001

-- the number just below 1
abbrev pub below_one_number : Float
below_one_number = bits 0x3fef_ffff_ffff_ffff

-- e such that exp(y) - 1 is y - (e·y - y²/2), for h = y/2, hy = y²/2 and the series r: a rational form of exp
abbrev pub end_of : Float → Float → Float → Float → Float
end_of h y r hy = let n = h ⊗ r ⊖ three in (r ⊕ n) ⊘ (y ⊗ n ⊕ six) ⊗ hy

-- y²/2, r, and two numbers between which e lies: h and y are moved by more than the products with them lose when they are rounded, 2^-55 and 2^-53
unfoldable pub correction_of : Float → Correction
correction_of y =
    let h = half ⊗ y in
    let hy = y ⊗ h in
    let h2 = hy ⊗ hy in
    let q1 = bits 0xbfa1_1111_1111_10f4 in
    let q2 = bits 0x3f5a_01a0_19fe_5585 in
    let q3 = bits 0xbf14_ce19_9eaa_dbb7 in
    let q4 = bits 0x3ed0_cfca_86e6_5239 in
    let q5 = bits 0xbe8a_fdb7_6e09_c32d in
    let r = h2 ⊗ h2 ⊗ (hy ⊗ q5 ⊕ q4) ⊕ (h2 ⊗ (hy ⊗ q3 ⊕ q2) ⊕ (hy ⊗ q1 ⊕ one)) in
    let dh = bits 0x3c80_0000_0000_0000 in
    let dy = bits 0x3ca0_0000_0000_0000 in
    record { half = hy; r = r; low = end_of (h ⊖ dh) (y ⊕ dy) r hy; high = end_of (h ⊕ dh) (y ⊖ dy) r hy }

-- e with one rounding for each product and the sum that it goes into
abbrev pub exact_of : Float → Correction → Float
exact_of y a =
    let n = fma_small_product_of (half ⊗ y) a.r (neg three) in
    (a.r ⊕ n) ⊘ fma_small_product_of y n six ⊗ a.half

-- for an x up to ½·ln 2 either way: with the exact e and one rounding for e·x - x²/2. That lies between the sums with the two ends of e and with x moved
-- by a little, and no operation changes the order: so where these two give the same, that is meant to be it (argued, not proved; the result is what is said here).
unfoldable pub near_zero_of : Float → Correction → Float
near_zero_of x a =
    let y = x ⊖ (a.low ⊗ (x ⊗ above_one) ⊖ a.half) in
    if eq y (x ⊖ (a.high ⊗ (x ⊗ below_one_number) ⊖ a.half)) then y
    else x ⊖ fma_small_product_of (exact_of x a) x (neg a.half)

-- (y - (s - y²/2))/2 - 1/2
abbrev pub halved_of : Float → Float → Float → Float
halved_of y s hy = half ⊗ (y ⊖ (s ⊖ hy)) ⊖ half

-- the same at y = x + ln 2, where c is what y lost when it was rounded
unfoldable pub shifted_of : Float → Float → Correction → Float
shifted_of y c a =
    let r = halved_of y ((a.low ⊖ c) ⊗ (y ⊗ above_one) ⊖ c) a.half in
    if eq r (halved_of y ((a.high ⊖ c) ⊗ (y ⊗ below_one_number) ⊖ c) a.half) then r
    else halved_of y (fma_large_product_of (exact_of y a ⊖ c) y (neg c)) a.half

-- exp(x) - 1, the limits being ½·ln 2 and 3/2·ln 2 to few digits, and ln 2 in two parts
unfoldable pub exp_minus_one_of : Float → Float
exp_minus_one_of x =
    let lo = bits 0x3dea_39ef_3579_3c76 in
    let hi = x ⊕ bits 0x3fe6_2e42_fee0_0000 in
    let y = hi ⊕ lo in
    if between_of (neg (bits 0x3fd6_2e43_0000_0000)) x (bits 0x3fd6_2e43_0000_0000) then near_zero_of x (correction_of x)
    else if between_of (neg (bits 0x3ff0_a2b2_0000_0000)) x plus_zero then shifted_of y (hi ⊖ y ⊕ lo) (correction_of y)
    else exp_of x ⊖ one
