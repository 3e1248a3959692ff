-- What Rust's methods on f64 give, by cases on the value: the size, the larger of two, the floor as a whole number; and the test of a range.
use Rattle.std.specs.Prelude.{ℕ, ◌-◌, ◌*◌, ◌/◌, ◌^◌, min, Bool, true, false, ◌&&◌, is_nan, Float}
use Rattle.std.specs.Float.{nan, inf, fin}
use Rattle.std.specs.Float.Ieee.{up, down, lt}
use Rattle.std.specs.Prelude.{if◌then◌else◌}

-- x without its sign, so that of -0.0 it is 0.0
unfoldable pub abs_of : Float → Float
abs_of nan = nan
abs_of (inf s) = inf false
abs_of (fin s m e) = fin false m e

-- of NaN and a number the number, of two NaN a NaN; else the larger, and x where the two are equal, as 0.0 and -0.0 are
unfoldable pub max_of : Float → Float → Float
max_of x y =
    if is_nan x then y
    else if is_nan y then x
    else if lt x y then y
    else x

-- low < x < high
unfoldable pub between_of : Float → Float → Float → Bool
between_of low x high = lt low x && lt x high

-- the floor of x, which for m * 2 ^ e is a quotient, held to 0 .. 2 ^ 64 - 1, and 0 for NaN
unfoldable pub floor_of : Float → ℕ
floor_of nan = 0
floor_of (inf true) = 0
floor_of (inf false) = 2 ^ 64 - 1
floor_of (fin true m e) = 0
floor_of (fin false m e) = min (m * up e / down e) (2 ^ 64 - 1)
