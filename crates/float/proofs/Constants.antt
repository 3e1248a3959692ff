-- Rust's infinities and its NaN, by their bit patterns, are what the quotients by 0 give. Assumes nothing.
use Rattle.std.proofs.Common.{◌≡◌, refl}
use lib.Ieee.{neg, div, of_bits}
use Rattle.float.specs.Ops.{◌⊘◌, bits, plus_zero, one, plus_infinity}

pub infinity : bits 0x7ff0_0000_0000_0000 ≡ plus_infinity
unfolding div of_bits
infinity = refl

pub minus_infinity : bits 0xfff0_0000_0000_0000 ≡ neg one ⊘ plus_zero
unfolding neg div of_bits
minus_infinity = refl

pub not_a_number : bits 0x7ff8_0000_0000_0000 ≡ plus_zero ⊘ plus_zero
unfolding div of_bits
not_a_number = refl

pub ruleset constants = (infinity, minus_infinity, not_a_number)
