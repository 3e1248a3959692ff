-- 0 rounded. Assumes nothing.
use Rattle.std.proofs.Common.{◌≡◌, ℕ, ◌<◌, Bool, pos, sym, zero-mul, pow_pos}
use lib.Ieee.{fin, binary64, round}
use lib.Ieee.Scale.{round_same}

-- 0 / c is rounded to the zero of its sign
pub round-zero : (s : Bool) (c : ℕ) → 0 < c → round binary64 s 0 c ≡ fin s 0 (pos 0)
unfolding round
round-zero s c C = round_same binary64 s 0 c 0 1 C (pow_pos 0) (sym (zero-mul c))
