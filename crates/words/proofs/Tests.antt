-- A test of each entry of a list: entry by entry, and beside another test. Assumes nothing.
use Rattle.std.specs.List.{list_all, list_any}
use mathlib.Core.Path.{◌≡◌, refl}
use mathlib.Core.Bool.{Bool, true, false, ◌||◌}
use mathlib.Core.List.{List, [], ◌∷◌}
use Prim.Native.Nat.{ℕ, ◌+◌, ◌≤◌, ◌<◌}
use native.Mathlib.Numerals.{add-one}
use lib.ListN.{length, drop, get_or, drop_of_length-le}
use lib.Seq.{drop-cons}
use Rattle.words.proofs.Cases.{test, both, neither, clash}

-- a test of each entry, of which k are passed
module _ {A : Type 0} (p : A → Bool) (l : List A) (d : A) (k : ℕ) where
  pub any-more : k < length l → p (get_or l k d) ≡ false → list_any p (drop (k + 1) l) ≡ list_any p (drop k l)
  any-more h e = rw (add-one k, drop-cons l k d h, e)

  pub any_found : k < length l → p (get_or l k d) ≡ true → true ≡ list_any p (drop k l)
  any_found h e = rw (drop-cons l k d h, e)

  pub any_none : length l ≤ k → false ≡ list_any p (drop k l)
  any_none h = rw (drop_of_length-le l h)

  pub every_more : k < length l → p (get_or l k d) ≡ true → list_all p (drop (k + 1) l) ≡ list_all p (drop k l)
  every_more h e = rw (add-one k, drop-cons l k d h, e)

  pub every_failed : k < length l → p (get_or l k d) ≡ false → false ≡ list_all p (drop k l)
  every_failed h e = rw (drop-cons l k d h, e)

  pub every_done : length l ≤ k → true ≡ list_all p (drop k l)
  every_done h = rw (drop_of_length-le l h)

-- the first one passes, if there is one
pub every_first : {A : Type 0} (p : A → Bool) (l : List A) (d : A) → p (get_or l 0 d) ≡ true → list_all p (drop 1 l) ≡ list_all p l
every_first p [] d e = refl
every_first p (x ∷ l) d e = rw e

module _ {A : Type 0} (p q : A → Bool) where
  -- one that fails wherever another fails
  pub none_by_none : ((x : A) → p x ≡ false → q x ≡ false) → (s : List A) → list_any p s ≡ false → list_any q s ≡ false
  none_by_none f [] h = refl
  none_by_none f (x ∷ xs) h =
      let n = neither (p x) (list_any p xs) h in
      rw (f x n.0) (none_by_none f xs n.1)

  -- one that fails wherever another passes
  pub none_by_every : ((x : A) → p x ≡ true → q x ≡ false) → (s : List A) → list_all p s ≡ true → list_any q s ≡ false
  none_by_every f [] h = refl
  none_by_every f (x ∷ xs) h =
      let n = both (p x) (list_all p xs) h in
      rw (f x n.0) (none_by_every f xs n.1)

or-true : (a : Bool) → (a || true) ≡ true
or-true true = refl
or-true false = refl

-- where one test fails somewhere, another passes that does so wherever the one fails
pub any_by_failed : {A : Type 0} (p q : A → Bool) → ((x : A) → p x ≡ false → q x ≡ true) → (l : List A) → list_all p l ≡ false → list_any q l ≡ true
any_by_failed p q f [] h = clash h refl
any_by_failed p q f (x ∷ xs) h = test (p x) (λ e. rw (any_by_failed p q f xs (rw e at h)) (or-true (q x))) (λ e. rw (f x e))
