-- exp: with x = (128·k + j)·ln 2/128 + r, k and j whole, j below 128 and r at most ln 2/256 either way, exp x = 2^k · 2^(j/128) · exp r.
use Rattle.std.specs.Prelude.{ℕ, ◌+◌, ◌-◌, ◌*◌, ◌/◌, ◌%◌, ◌^◌, Bool, ◌&&◌, leb, ltb, Float}
use Rattle.std.specs.Float.{binary64}
use Rattle.std.specs.Float.Ieee.{to_bits, lt, le, ne}
use Rattle.float.specs.Ops.{◌⊕◌, ◌⊖◌, ◌⊗◌, bits, plus_zero, plus_infinity}
use Rattle.std.specs.Prelude.{if◌then◌else◌}
use Rattle.elementary.specs.Fma.{fma_small_product_of}
use Rattle.elementary_tables.specs.declared.exp_table.ExpRow.{ExpRow}
use Rattle.elementary_tables.specs.ExpTable.{exp_row_of}

-- 1.5·2^52 + 128·1100: a sum with it is a whole number, whose last binary digits hold 128·(k + 1100) + j
abbrev pub shift : Float
shift = bits 0x4338_0000_0002_2600

-- exp r - 1 to the fifth power of r, with tail added to the first
unfoldable pub series_of : Float → Float → Float
series_of r tail =
    let r2 = r ⊗ r in
    let c2 = bits 0x3fdf_ffff_ffff_fdbd in
    let c3 = bits 0x3fc5_5555_5555_543c in
    let c4 = bits 0x3fa5_5555_cf17_2b91 in
    let c5 = bits 0x3f81_1111_67a4_d017 in
    r2 ⊗ r2 ⊗ (r ⊗ c5 ⊕ c4) ⊕ (r2 ⊗ (r ⊗ c3 ⊕ c2) ⊕ (tail ⊕ r))

-- 2^(n - 1023), by its exponent's field
unfoldable pub power_of_two_of : ℕ → Float
power_of_two_of n = bits (n * 2 ^ 52)

-- y·2^(k - 1100), by two factors that are normal numbers
unfoldable pub scaled_of : Float → ℕ → Float
scaled_of y k =
    let c = k % 2200 in
    let a = c / 2 in
    y ⊗ power_of_two_of (a + 473) ⊗ power_of_two_of (c - a + 473)

-- y, or 0 in place of a y that is below 0 or NaN
unfoldable pub from0_of : Float → Float
from0_of y =
    if le plus_zero y then y
    else plus_zero

-- -746: below it the result is less than half of the least f64
abbrev pub lowest_exponent : Float
lowest_exponent = bits 0xc087_5000_0000_0000

-- exp x as h·(1 + t)·2^(k - 1100), for the h of the pattern head
abbrev pub far_of : Float → ℕ → Float → ℕ → Float
far_of x head t k =
    if lt x lowest_exponent then plus_zero
    else from0_of (scaled_of (fma_small_product_of (bits head) t (bits head)) k)

-- (128·k + j) + shift: the factor is 128/ln 2
abbrev pub steps_of : Float → Float
steps_of x = x ⊗ bits 0x4067_1547_652b_82fe ⊕ shift

-- k + 1100, by the last digits of such a sum
abbrev pub power_at : Float → ℕ
power_at m = to_bits binary64 m % 2 ^ 19 / 128

-- the row of j, by its last seven digits
abbrev pub row_at : Float → ExpRow
row_at m = exp_row_of (to_bits binary64 m % 128)

-- whether k is from -900 to 899, by the patterns of these sums
abbrev pub inside : Float → Bool
inside m = leb 0x4338_0000_0000_6400 (to_bits binary64 m) && ltb (to_bits binary64 m) 0x4338_0000_0003_e800

-- t, exp r - 1 with the row's tail: the factors of the whole part are -ln 2/128 in two parts, so that r is exact but for its last operations
abbrev pub term_of : Float → Float → Float
term_of x m =
    let whole = m ⊖ shift in
    series_of (whole ⊗ bits 0xbd0c_f79a_bc9e_3b3a ⊕ (whole ⊗ bits 0xbf76_2e42_fefa_0000 ⊕ x)) (row_at m).tail

-- h·(1 + t), for the h of the row with k added to its exponent
abbrev pub raised_of : Float → Float → Float
raised_of m t =
    let h = bits ((row_at m).head + power_at m * 2 ^ 52 - 1100 * 2 ^ 52) in
    fma_small_product_of h t h

-- exp x below the limit of exp_of: where k is from -900 to 899 all numbers are normal, and 2^k goes into the exponent at once. With the test no
-- result is below 0; no argument is known that needs it.
unfoldable pub near_of : Float → Float
near_of x =
    let m = steps_of x in
    let t = term_of x m in
    let y = raised_of m t in
    if inside m && le plus_zero y then y
    else far_of x (row_at m).head t (power_at m)

-- exp x: from 710 on it is beyond the largest f64
unfoldable pub exp_of : Float → Float
exp_of x =
    if lt x (bits 0x4086_3000_0000_0000) then near_of x
    else if ne x x then x
    else plus_infinity
