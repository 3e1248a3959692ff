-- Two lists of bytes, read one by one. Assumes nothing.
use Prim.Native.Nat.{ℕ, suc}
use mathlib.Core.Path.{◌≡◌, refl, ap}
use mathlib.Core.Bool.{true, false}
use mathlib.Core.List.{List, [], ◌∷◌}
use lib.Dec.{eqb}
use lib.ListN.{length}
use borrow.Author.Tests.{eqb-true, eq-eqb}
use Rattle.words.proofs.Cases.{both, clash, and-false}
use Rattle.words.specs.Lists.{same_bytes}

-- lists of two lengths
pub same_lengths : (a b : List ℕ) → (length a ≡ length b → ⊥) → same_bytes a b ≡ false
same_lengths [] [] n = absurd (n refl)
same_lengths [] (y ∷ ys) n = refl
same_lengths (x ∷ xs) [] n = refl
same_lengths (x ∷ xs) (y ∷ ys) n = rw (same_lengths xs ys (λ e. n (ap suc e))) (and-false (eqb x y))

-- lists of the same bytes are equal
pub same_equal : (a b : List ℕ) → same_bytes a b ≡ true → a ≡ b
same_equal [] [] t = refl
same_equal [] (y ∷ ys) t = clash refl t
same_equal (x ∷ xs) [] t = clash refl t
same_equal (x ∷ xs) (y ∷ ys) t =
    let d = both (eqb x y) (same_bytes xs ys) t in
    rw (eqb-true x y d.0, same_equal xs ys d.1)

-- a list has the same bytes as itself
pub same_self : (s : List ℕ) → same_bytes s s ≡ true
same_self [] = refl
same_self (x ∷ xs) = rw (eq-eqb x x refl) (same_self xs)
