-- The definitions at their corners, by computation. Assumes nothing.
use Rattle.std.proofs.Common.{◌-◌, ◌^◌, Bool, not, T, eqb, List, [], ◌∷◌}
use lib.Ieee.{nan, neg, div, lt, is_nan, of_bits, to_bits, of_int}
use lib.Ieee.Scale.{finite}
use Rattle.float.specs.Claims.{same}
use Rattle.words.specs.Claims.{all}
use Rattle.float.specs.Ops.{◌⊘◌, bits, whole, plus_zero, one, half, two, three, epsilon, plus_infinity}
use Rattle.float.specs.Methods.{abs_of, max_of, between_of, floor_of}

-- of the constants by the numbers that they are, and of abs, max, between, floor_to_u64 and finite, in turn
abbrev examples : List Bool
examples =
    same one (whole 1)
    ∷ same half (one ⊘ whole 2)
    ∷ same two (whole 2)
    ∷ same three (whole 3)
    ∷ same epsilon (one ⊘ whole (2 ^ 52))
    ∷ same (abs_of (neg plus_zero)) plus_zero
    ∷ same (abs_of nan) nan
    ∷ same (abs_of (neg plus_infinity)) plus_infinity
    ∷ same (abs_of (neg one)) one
    ∷ same (max_of nan one) one
    ∷ same (max_of one nan) one
    ∷ same (max_of nan nan) nan
    ∷ same (max_of one plus_zero) one
    ∷ same (max_of plus_zero one) one
    ∷ same (max_of plus_zero (neg plus_zero)) plus_zero
    ∷ same (max_of (neg plus_zero) plus_zero) (neg plus_zero)
    ∷ between_of (neg one) plus_zero one
    ∷ not (between_of plus_zero plus_zero one)
    ∷ not (between_of plus_zero one one)
    ∷ not (between_of plus_zero nan one)
    ∷ eqb (floor_of (bits 0x4007_fdf3_b645_a1cb)) 2  -- 2.999
    ∷ eqb (floor_of (bits 0xbfe0_0000_0000_0000)) 0  -- -0.5
    ∷ eqb (floor_of nan) 0
    ∷ eqb (floor_of plus_infinity) (2 ^ 64 - 1)
    ∷ eqb (floor_of (neg plus_infinity)) 0
    ∷ eqb (floor_of (bits 0x43f0_0000_0000_0000)) (2 ^ 64 - 1)  -- 2 ^ 64
    ∷ eqb (floor_of (bits 0x43ef_ffff_ffff_ffff)) 18446744073709549568  -- the largest below it
    ∷ not (finite nan)
    ∷ not (finite plus_infinity)
    ∷ not (finite (neg plus_infinity))
    ∷ finite plus_zero
    ∷ finite (neg one)
    ∷ []

-- all of them hold
pub corners : T (all examples)
unfolding neg div lt is_nan of_bits to_bits of_int same abs_of max_of between_of floor_of
corners = tt
