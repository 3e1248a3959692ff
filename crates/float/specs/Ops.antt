-- The notation of all our definitions on f64: the four operations, each rounded once as IEEE 754 has it (to the nearest, ties to even),
-- in Knuth's signs, and constants by their bit patterns.
use Rattle.std.specs.Prelude.{ℕ, pos, from_bits, Float}
use Rattle.std.specs.Float.{binary64}
use Rattle.std.specs.Float.Ieee.{of_int, add, sub, mul, div}

infixl 65 ◌⊕◌ ◌⊖◌
infixl 70 ◌⊗◌ ◌⊘◌
-- x + y, rounded
abbrev pub ◌⊕◌ : Float → Float → Float
x ⊕ y = add binary64 x y

-- x - y, rounded
abbrev pub ◌⊖◌ : Float → Float → Float
x ⊖ y = sub binary64 x y

-- x * y, rounded
abbrev pub ◌⊗◌ : Float → Float → Float
x ⊗ y = mul binary64 x y

-- x / y, rounded
abbrev pub ◌⊘◌ : Float → Float → Float
x ⊘ y = div binary64 x y

-- the f64 that has the bit pattern n
abbrev pub bits : ℕ → Float
bits n = from_bits binary64 n

-- the whole number n as an f64
abbrev pub whole : ℕ → Float
whole n = of_int binary64 (pos n)

-- 0
abbrev pub plus_zero : Float
plus_zero = bits 0

-- 1
abbrev pub one : Float
one = bits 0x3ff0_0000_0000_0000

-- 1/2
abbrev pub half : Float
half = bits 0x3fe0_0000_0000_0000

-- 2
abbrev pub two : Float
two = bits 0x4000_0000_0000_0000

-- 3
abbrev pub three : Float
three = bits 0x4008_0000_0000_0000

-- 6
abbrev pub six : Float
six = bits 0x4018_0000_0000_0000

-- 2^-52 = 2.220446049250313e-16: 1 is so far below the next f64
abbrev pub epsilon : Float
epsilon = bits 0x3cb0_0000_0000_0000

-- +infinity, as 1 / 0 gives it
abbrev pub plus_infinity : Float
plus_infinity = one ⊘ plus_zero
