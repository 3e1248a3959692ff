-- a·b + c with one rounding, from operations that round each time.
use Rattle.std.specs.Prelude.{Float}
use Rattle.std.specs.Float.Ieee.{eq}
use Rattle.float.specs.Ops.{◌⊕◌, ◌⊖◌, ◌⊗◌, bits}
use Rattle.std.specs.Prelude.{if◌then◌else◌}

-- the leading 26 digits of x (Veltkamp): the factor is 2^27 + 1
unfoldable pub leading_digits : Float → Float
leading_digits x = let t = bits 0x41a0_0000_0200_0000 ⊗ x in t ⊖ (t ⊖ x)

-- what a product lost when it was rounded to p, for the factors ah + al and bh + bl (Dekker): all but the last of these operations are exact
unfoldable pub lost_of : Float → Float → Float → Float → Float → Float
lost_of p ah al bh bl = ah ⊗ bh ⊖ p ⊕ ah ⊗ bl ⊕ al ⊗ bh ⊕ al ⊗ bl

-- what a·b loses when it is rounded
unfoldable pub product_error_of : Float → Float → Float
product_error_of a b =
    let ah = leading_digits a in
    let bh = leading_digits b in
    lost_of (a ⊗ b) ah (a ⊖ ah) bh (b ⊖ bh)

-- a·b + c, where c is no smaller than the product, or a multiple of its last digit. s is the sum and d what it lost, exactly (Dekker); where even a
-- slightly larger d would not move s, s is the answer. The factor is 1 + 10^-7.
unfoldable pub fma_small_product_of : Float → Float → Float → Float
fma_small_product_of a b c =
    let p = a ⊗ b in
    let s = c ⊕ p in
    let d = p ⊖ (s ⊖ c) in
    if eq (s ⊕ d ⊗ bits 0x3ff0_0000_1ad7_f29b) s then s
    else s ⊕ (d ⊕ product_error_of a b)

-- a·b + c, where the product is no smaller than c
unfoldable pub fma_large_product_of : Float → Float → Float → Float
fma_large_product_of a b c =
    let p = a ⊗ b in
    let s = p ⊕ c in
    let d = c ⊖ (s ⊖ p) in
    s ⊕ (d ⊕ product_error_of a b)
