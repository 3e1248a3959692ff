-- Parts one after another. Assumes nothing.
use mathlib.Core.Path.{◌≡◌, refl, sym}
use mathlib.Core.List.{List, [], ◌∷◌, ◌++◌, append_assoc}
use Prim.Native.Nat.{ℕ, ◌+◌, ◌*◌, ◌≤◌, ◌<◌}
use native.Mathlib.Nat.{mul-zero, mul-suc, add_comm}
use native.Mathlib.Numerals.{add-one}
use lib.ListN.{length, drop, get_or, length-append, drop_of_length-le}
use lib.Seq.{drop-cons}
use Rattle.lent_bytes.specs.Bytes.{joined}

module _ {A : Type 0} (bytes : A → List ℕ) where
  -- parts after parts
  pub joined_append : (k l : List A) → joined bytes (k ++ l) ≡ joined bytes k ++ joined bytes l
  joined_append [] l = refl
  joined_append (a ∷ k) l = rw (joined_append k l, append_assoc (bytes a) (joined bytes k) (joined bytes l))

  -- parts of one length
  pub joined_length : (n : ℕ) → ((a : A) → length (bytes a) ≡ n) → (l : List A) → length (joined bytes l) ≡ n * length l
  joined_length n h [] = sym (mul-zero n)
  joined_length n h (a ∷ l) =
      rw (length-append (bytes a) (joined bytes l), h a, joined_length n h l, mul-suc n (length l)) (add_comm n (n * length l))

  -- those from place i on: the one there, and those after it
  pub joined-more : (l : List A) (d : A) (i : ℕ) → i < length l → joined bytes (drop i l) ≡ bytes (get_or l i d) ++ joined bytes (drop (i + 1) l)
  joined-more l d i h = rw (add-one i, drop-cons l i d h)

  pub joined-none : (l : List A) (i : ℕ) → length l ≤ i → joined bytes (drop i l) ≡ []
  joined-none l i h = rw (drop_of_length-le l h)
