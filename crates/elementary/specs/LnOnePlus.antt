-- ln(1 + x): 1 + x is (1 + f)·2^k with 1 + f from about 0.707 to 1.414, so ln(1 + x) = k·ln 2 + ln(1 + f).
use Rattle.std.specs.Prelude.{◌+◌, ◌/◌, ◌%◌, ◌^◌, ◌&&◌, Float}
use Rattle.std.specs.Float.{binary64}
use Rattle.std.specs.Float.Ieee.{to_bits, lt, le, eq, neg}
use Rattle.elementary.specs.declared.ln_one_plus.Parts.{Parts}
use Rattle.elementary.specs.declared.ln_one_plus.Series.{Series}
use Rattle.float.specs.Ops.{◌⊕◌, ◌⊖◌, ◌⊗◌, ◌⊘◌, bits, whole, plus_zero, one, half}
use Rattle.std.specs.Prelude.{if◌then◌else◌}
use Rattle.float.specs.Methods.{between_of}
use Rattle.elementary.specs.Fma.{fma_large_product_of}

-- 1 + x as (1 + f)·2^k, with c for what 1 + x lost when it was rounded, relative to it. The pattern of 1 + x is taken from that of √½ on, so that v holds
-- k + 1024 above the 52 digits of 1 + f.
unfoldable pub reduced_of : Float → Parts
reduced_of x =
    let u = x ⊕ one in
    let w = u ⊖ one in
    let v = to_bits binary64 u % 2 ^ 63 + 0x0019_5f62_0000_0000 in
    record {
      f = bits (v % 2 ^ 52 + 0x3fe6_a09e_0000_0000) ⊖ one;
      k = whole (v / 2 ^ 52) ⊖ bits 0x4090_0000_0000_0000;
      c = (one ⊖ (u ⊖ w) ⊕ (x ⊖ w)) ⊘ u;
    }

-- with s = f/(2 + f), ln(1 + f) = ln(1 + s) - ln(1 - s), a series in z = s²: f²/2, s, z, and the terms of the series after the first in pairs
unfoldable pub expansion_of : Float → Series
expansion_of f =
    let s = f ⊘ (bits 0x4000_0000_0000_0000 ⊕ f) in
    let z = s ⊗ s in
    let z2 = z ⊗ z in
    let z4 = z2 ⊗ z2 in
    let l2 = bits 0x3fd9_9999_9997_fa04 in
    let l3 = bits 0x3fd2_4924_9422_9359 in
    let l4 = bits 0x3fcc_71c5_1d8e_78af in
    let l5 = bits 0x3fc7_4664_96cb_03de in
    let l6 = bits 0x3fc3_9a09_d078_c69f in
    let l7 = bits 0x3fc2_f112_df3e_5244 in
    record {
      half = half ⊗ f ⊗ f;
      s = s;
      z = z;
      low = z2 ⊗ (z ⊗ l3 ⊕ l2);
      middle = z4 ⊗ (z ⊗ l5 ⊕ l4);
      top = z4 ⊗ z2 ⊗ (z ⊗ l7 ⊕ l6);
    }

-- what has to be added to f - f²/2 for ln(1 + f), with low for the first three terms
abbrev pub rest_of : Series → Float → Float
rest_of a low = a.s ⊗ (a.half ⊕ (a.top ⊕ (a.middle ⊕ low)))

-- k·ln 2 + ln(1 + f) + c with that low, ln 2 in two parts so that its product with the first is exact; without c where k is 0
abbrev pub ln_one_plus_sum : Parts → Series → Float → Float
ln_one_plus_sum t a low =
    if eq t.k plus_zero then t.f ⊖ (a.half ⊖ rest_of a low)
    else t.k ⊗ bits 0x3fe6_2e42_fee0_0000 ⊖ (a.half ⊖ (rest_of a low ⊕ (t.k ⊗ bits 0x3dea_39ef_3579_3c76 ⊕ t.c)) ⊖ t.f)

-- the same with the first three terms added up in one rounding. Such a sum lies between those with the two numbers beside the first coefficient, and no
-- operation of it changes the order: so where these two give the same, that is meant to be it (argued, not proved; the result is what is said here).
unfoldable pub joined_of : Parts → Float
joined_of t =
    let a = expansion_of t.f in
    let y = ln_one_plus_sum t a (a.z ⊗ bits 0x3fe5_5555_5555_5592 ⊕ a.low) in
    if eq y (ln_one_plus_sum t a (a.z ⊗ bits 0x3fe5_5555_5555_5594 ⊕ a.low)) then y
    else ln_one_plus_sum t a (fma_large_product_of a.z (bits 0x3fe5_5555_5555_5593) a.low)

-- ln(1 + x) before the last test. Between the first limits, about √½ - 1 and √2 - 1, 1 + x is taken as it is, but up to 2^-29 either way x - x²/2; from
-- there to 1.75 k is 1; an infinity is its own logarithm
unfoldable pub ln_one_plus_of_number : Float → Float
ln_one_plus_of_number x =
    let u = x ⊕ one in
    if lt (bits 0xbfd2_bec4_0000_0000) x then
    (if lt x (bits 0x3fda_827a_0000_0000) then
    (if between_of (neg (bits 0x3e20_0000_0000_0000)) x (bits 0x3e20_0000_0000_0000) then x ⊖ x ⊗ x ⊗ half
    else joined_of (record { f = x; k = plus_zero; c = plus_zero }))
    else if lt x (bits 0x3ffc_0000_0000_0000) then joined_of (record { f = u ⊗ half ⊖ one; k = one; c = (x ⊖ (u ⊖ one)) ⊘ u })
    else if lt (bits 0x7fef_ffff_ffff_ffff) x then x
    else joined_of (reduced_of x))
    else if lt (neg one) x then joined_of (reduced_of x)
    else if eq x (neg one) then neg one ⊘ plus_zero
    else plus_zero ⊘ plus_zero

-- ln(1 + x). With this test no x from 0 on has a result below 0; no argument is known that needs it.
unfoldable pub ln_one_plus_of : Float → Float
ln_one_plus_of x =
    let y = ln_one_plus_of_number x in
    if le plus_zero x && lt y plus_zero then plus_zero
    else y
