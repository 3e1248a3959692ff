-- When two f64 are the same, as a claim that is computed.
use Rattle.std.specs.Prelude.{Bool, ◌==◌, to_bits, Float}
use Rattle.std.specs.Float.{binary64}

-- the same f64: a NaN is the same as a NaN, and -0.0 is not the same as 0.0
unfoldable pub same : Float → Float → Bool
same x y = to_bits binary64 x == to_bits binary64 y
