-- 16 hex digits fit 64 bits. Assumes nothing.
use Rattle.std.proofs.Common.{◌≡◌, ℕ, ◌+◌, ◌*◌, ◌^◌, ◌<◌, ◌≤◌, pow-suc, add-one, arith, lit<}
use native.Mathlib.Nat.{pow-le-pow_right}

room_for : (i : ℕ) → i ≤ 16 → 16 ^ i ≤ 2 ^ 64
room_for i h = pow-le-pow_right (lit< tt) h

-- after i digits a number is below 16 ^ i: one more leaves it below 2 ^ 64 where there are fewer than 16
pub one_more_fits : (i n d : ℕ) → i < 16 → n < 16 ^ i → d < 16 → 16 * n + d < 2 ^ 64
one_more_fits i n d few below digit =
    let room = room_for (i + 1) (omega arith) in
    let next : 16 ^ (i + 1) ≡ 16 ^ i * 16 = rw (add-one, pow-suc) in
    omega (arith, room, next)
