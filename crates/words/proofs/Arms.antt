-- The last arm of a table written as a `match` whose arms are 0, 1, 2 and so on. Assumes nothing.
use Prim.Native.Nat.{ℕ, zero, suc, ◌≤◌, min}
use native.Mathlib.Omega.{arith}
use mathlib.Core.Path.{◌≡◌}

-- x is none of the keys below n, as a `match` leaves it to its last arm
abbrev NoKey : ℕ → ℕ → Type 0
NoKey zero x = Unit {0}
NoKey (suc n) x = NoKey n x × (x ≡ n → ⊥)

-- so it is n or more
beyond : (n x : ℕ) → NoKey n x → n ≤ x
beyond zero x h = omega arith
beyond (suc n) x h = let i = beyond n x h.0 in let k = h.1 in omega arith

-- and counts as n
pub last : (n x : ℕ) → NoKey n x → min x n ≡ n
last n x h = let b = beyond n x h in omega arith
