-- The columns from a place on, one at a time, each by the part of the bytes that holds it: what a walk over a file's columns uses. Assumes nothing.
use Rattle.std.specs.Prelude.{Option, Some, None}
use mathlib.Core.Path.{◌≡◌, refl}
use mathlib.Core.List.{List, [], ◌∷◌}
use Prim.Native.Nat.{ℕ, zero, suc, ◌+◌, ◌-◌, ◌*◌, ◌≤◌, ◌<◌}
use native.Mathlib.Omega.{arith}
use lib.ListN.{length, take, drop}
use Rattle.words.proofs.Pairs.{two}
use Rattle.column_file.specs.declared.columns.ColumnPlace.{ColumnPlace}
use Rattle.column_file.specs.Format.{Observation}
use Rattle.column_file.specs.Places.{column_at, observations_at, observations_in, placed, columns_at}
use Rattle.column_file.proofs.ColumnWalk.{column_inside}

-- n observations from a place on
pub observations_in_lem : (s : List ℕ) (at n : ℕ) → at + 2 * n ≤ length s → observations_in (take (2 * n) (drop at s)) ≡ observations_at s at n
unfolding observations_in
observations_in_lem s at zero h = refl
observations_in_lem s at (suc n) h =
    let e : 2 * suc n ≡ suc (suc (2 * n)) = omega arith in
    let l : at + 1 < length s = omega arith in
    rw (e, two s at l, observations_in_lem s (at + 2) n (omega arith))

-- the observations in the part of the bytes that is lent
abbrev pub part_of : List ℕ → ℕ → ℕ → List Observation
part_of s at n = observations_in (take (at + 2 * n - at) (drop at s))

part_observations : (s : List ℕ) (at n : ℕ) → at + 2 * n ≤ length s → part_of s at n ≡ observations_at s at n
part_observations s at n h =
    let e : at + 2 * n - at ≡ 2 * n = omega arith in
    rw e (observations_in_lem s at n h)

-- a column that is found
module _ (s : List ℕ) (at : ℕ) (p : ColumnPlace) (e : column_at s at ≡ Some p) where
  -- lies in the bytes
  pub column_fits : p.start + 2 * p.count ≤ length s
  column_fits = (column_inside s at p e).2

-- one column more
pub columns_more : (s : List ℕ) (at n : ℕ) (p : ColumnPlace) → 0 < n → column_at s at ≡ Some p
    → columns_at s at n ≡ part_of s p.start p.count ∷ columns_at s (p.start + 2 * p.count) (n - 1)
columns_more s at zero p h e = absurd (omega arith)
columns_more s at (suc n) p h e =
    let d : suc n - 1 ≡ n = omega arith in
    rw (e, d, part_observations s p.start p.count (column_fits s at p e))

-- none more: the bytes do not reach, or none is left
pub columns_past : (s : List ℕ) (at n : ℕ) → column_at s at ≡ None → columns_at s at n ≡ []
columns_past s at zero e = refl
columns_past s at (suc n) e = rw e

pub columns_none : (s : List ℕ) (at n : ℕ) → n ≤ 0 → columns_at s at n ≡ []
columns_none s at zero h = refl
columns_none s at (suc n) h = absurd (omega arith)

-- no more than are asked for
placed_most : (s : List ℕ) (n : ℕ) → ((at : ℕ) → length (columns_at s at n) ≤ n) → (p : Option ColumnPlace)
    → length (placed (λ start k. observations_at s start k ∷ columns_at s (start + 2 * k) n) p) ≤ suc n
placed_most s n h None = omega arith
placed_most s n h (Some p) = omega (arith, h (p.start + 2 * p.count))

pub columns_most : (s : List ℕ) (n at : ℕ) → length (columns_at s at n) ≤ n
columns_most s zero at = omega arith
columns_most s (suc n) at = placed_most s n (columns_most s n) (column_at s at)
