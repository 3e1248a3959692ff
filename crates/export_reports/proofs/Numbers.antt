-- The number of eight bytes, as std reads it. Assumes nothing.
use Rattle.std.proofs.Common.{◌≡◌, ℕ, ◌+◌, List, arith}
use Rattle.std.specs.Int.{from_le_bytes, w64}
use Rattle.words.specs.Lists.{byte_at, listed}
use Rattle.lent_bytes.specs.Bytes.{number_at}
use Rattle.lent_bytes.proofs.Numbers.{number-none, number_more}

pub number_eight : (s : List ℕ) (at : ℕ) → from_le_bytes w64 (listed (byte_at s) at 8) ≡ number_at s 8 at
unfolding listed
number_eight s at =
    let a = number_more s at 7 in
    let b = number_more s (at + 1) 6 in
    let c = number_more s (at + 1 + 1) 5 in
    let d = number_more s (at + 1 + 1 + 1) 4 in
    let e = number_more s (at + 1 + 1 + 1 + 1) 3 in
    let f = number_more s (at + 1 + 1 + 1 + 1 + 1) 2 in
    let g = number_more s (at + 1 + 1 + 1 + 1 + 1 + 1) 1 in
    let h = number_more s (at + 1 + 1 + 1 + 1 + 1 + 1 + 1) 0 in
    omega (arith, number-none s (at + 1 + 1 + 1 + 1 + 1 + 1 + 1 + 1))
