-- The four low bytes of a number. Assumes nothing.
use mathlib.Core.Path.{◌≡◌}
use Prim.Native.Nat.{ℕ, ◌/◌, ◌%◌, ◌^◌}
use native.Mathlib.Omega.{arith}
use Rattle.lent_bytes.specs.Bytes.{number_bytes, four_bytes}

-- four bytes show a number modulo 2^32
pub low_four : (n : ℕ) → four_bytes (n % 2 ^ 32) ≡ four_bytes n
unfolding number_bytes
low_four n =
    let a : n % 2 ^ 32 % 256 ≡ n % 256 = omega arith in
    let b : n % 2 ^ 32 / 256 % 256 ≡ n / 256 % 256 = omega arith in
    let c : n % 2 ^ 32 / 256 / 256 % 256 ≡ n / 256 / 256 % 256 = omega arith in
    let d : n % 2 ^ 32 / 256 / 256 / 256 % 256 ≡ n / 256 / 256 / 256 % 256 = omega arith in
    rw (a, b, c, d)
