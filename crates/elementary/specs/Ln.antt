-- ln: a normal x is m·2^k with m from 1 to 2; with c from a table, near m, and r = m/c - 1, ln x = k·ln 2 + ln c + ln(1 + r). From m = 1.375 on k is one
-- more, and ln c is that of c/2.
use Rattle.std.specs.Prelude.{◌+◌, ◌/◌, ◌%◌, ◌^◌, ◌&&◌, Float}
use Rattle.std.specs.Float.{binary64}
use Rattle.std.specs.Float.Ieee.{to_bits, lt, le, eq, neg}
use Rattle.elementary_tables.specs.declared.ln_table.LnRow.{LnRow}
use Rattle.float.specs.Ops.{◌⊕◌, ◌⊖◌, ◌⊗◌, ◌⊘◌, bits, whole, plus_zero, one}
use Rattle.std.specs.Prelude.{if◌then◌else◌}
use Rattle.elementary.specs.Fma.{fma_small_product_of}
use Rattle.elementary_tables.specs.LnTable.{ln_row_of}
use Rattle.elementary.specs.LnOnePlus.{ln_one_plus_of}

-- m/c - 1 with one rounding, for an m that is t above the middle of its part: t has so few digits that its product with the head is exact, and so is that
-- product and the offset
unfoldable pub ratio_of : Float → LnRow → Float
unfolding fma_small_product_of
ratio_of t e = fma_small_product_of t e.tail (t ⊗ e.head ⊕ e.offset)

-- ln(x·2^(1023 - bias)) for a normal x. The first seven of its 52 digits choose the row; the other 45, as those of a number from 1 on, say how far m lies
-- above the middle of its part, which is 1 + 2^-8 for the first. From the seven digits of 1.375 on, the number 48, the 80 carry into the exponent.
-- The factors of k are ln 2 in two parts, so that its product with the first is exact.
unfoldable pub normal_of : Float → Float → Float
normal_of x bias =
    let n = to_bits binary64 x in
    let first = n / 2 ^ 45 in
    let e = ln_row_of (first % 128) in
    let k = whole ((first + 80) / 128) ⊖ bias in
    let r = ratio_of (bits (n % 2 ^ 45 + 0x3ff0_0000_0000_0000) ⊖ bits 0x3ff0_1000_0000_0000) e in
    let w = k ⊗ bits 0x3fe6_2e42_fefa_3800 ⊕ e.logarithm in
    let hi = w ⊕ r in
    let lo = k ⊗ bits 0x3d2e_f357_93c7_6730 ⊕ (w ⊖ hi ⊕ r) in
    let r2 = r ⊗ r in
    let a0 = bits 0xbfe0_0000_0000_0001 in
    let a1 = bits 0x3fd5_5555_5551_305b in
    let a2 = bits 0xbfcf_ffff_ffeb_4590 in
    let a3 = bits 0x3fc9_99b3_24f1_0111 in
    let a4 = bits 0xbfc5_5575_e506_c89f in
    let q = (r ⊗ a4 ⊕ a3) ⊗ r2 ⊕ (r ⊗ a2 ⊕ a1) in
    r ⊗ r2 ⊗ q ⊕ (r2 ⊗ a0 ⊕ lo) ⊕ hi

-- ln x: from 0.9375 to 1.0647 the terms with k and c would only cancel; from the least normal number to the largest; an infinity is its own logarithm; below
-- the normal numbers x·2^52 is one
unfoldable pub ln_of : Float → Float
ln_of x =
    if le (bits 0x3fee_0000_0000_0000) x && lt x (bits 0x3ff1_0900_0000_0000) then ln_one_plus_of (x ⊖ one)
    else if le (bits 0x0010_0000_0000_0000) x && le x (bits 0x7fef_ffff_ffff_ffff) then normal_of x (bits 0x408f_f800_0000_0000)
    else if lt (bits 0x7fef_ffff_ffff_ffff) x then x
    else if lt plus_zero x then normal_of (x ⊗ bits 0x4330_0000_0000_0000) (bits 0x4090_cc00_0000_0000)
    else if eq x plus_zero then neg one ⊘ plus_zero
    else plus_zero ⊘ plus_zero
