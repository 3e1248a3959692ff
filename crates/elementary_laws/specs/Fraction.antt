-- Exact fractions, to say how near a result comes with no rounding at all.
use Rattle.std.specs.Prelude.{ℕ, zero, suc, ◌+◌, ◌*◌, Bool, true, false, ◌&&◌, leb, Float}
use Rattle.std.specs.Float.{nan, inf, fin}
use Rattle.std.specs.Float.Ieee.{up, down}

-- (above - below) / under
pub record Fraction : Type 0 where
  pub above : ℕ
  pub below : ℕ
  pub under : ℕ

-- the exact value of an f64, and 0 for a NaN or an infinity, which has none
abbrev pub value : Float → Fraction
value nan = record { above = 0; below = 0; under = 1 }
value (inf s) = record { above = 0; below = 0; under = 1 }
value (fin false m e) = record { above = m * up e; below = 0; under = down e }
value (fin true m e) = record { above = 0; below = m * up e; under = down e }

-- n / d
abbrev pub ratio : ℕ → ℕ → Fraction
ratio n d = record { above = n; below = 0; under = d }

abbrev pub plus : Fraction → Fraction → Fraction
plus a b =
    record {
      above = a.above * b.under + b.above * a.under;
      below = a.below * b.under + b.below * a.under;
      under = a.under * b.under;
    }

abbrev pub minus : Fraction → Fraction → Fraction
minus a b = plus a (record { above = b.below; below = b.above; under = b.under })

abbrev pub times : Fraction → Fraction → Fraction
times a b =
    record {
      above = a.above * b.above + a.below * b.below;
      below = a.above * b.below + a.below * b.above;
      under = a.under * b.under;
    }

unfoldable pub power : Fraction → ℕ → Fraction
power a zero = ratio 1 1
power a (suc n) = times a (power a n)

-- a ≤ b
abbrev pub at_most : Fraction → Fraction → Bool
at_most a b = leb (a.above * b.under + b.below * a.under) (b.above * a.under + a.below * b.under)

-- a and b differ by at most d
abbrev pub within : Fraction → Fraction → Fraction → Bool
within d a b = at_most a (plus b d) && at_most b (plus a d)
