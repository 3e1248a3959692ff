-- Strings by their places: which lie in the set, and loops over them. Assumes nothing.
use Rattle.std.specs.List.{list_all}
use mathlib.Core.Path.{◌≡◌, refl, ◌∙◌, ap}
use mathlib.Core.Bool.{Bool, true, ◌&&◌}
use mathlib.Core.List.{List, [], ◌∷◌, map}
use Prim.Native.Nat.{ℕ, zero, suc, ◌+◌, ◌≤◌, ◌<◌}
use native.Mathlib.Nat.{le_of_suc-le-suc, not-suc-le-zero}
use native.Mathlib.Omega.{arith}
use borrow.Author.Tests.{leb-true, ltb-true, lt-ltb, le-leb}
use lib.Dec.{leb, ltb}
use lib.ListN.{length, take, drop, get_or, length-map, length-drop}
use lib.Seq.{length-take-le}
use Rattle.words.proofs.Cases.{both}
use Rattle.words.specs.Lists.{byte_at}
use Rattle.umi_rows.specs.Rows.{fitting, EachFits, RowsFit, rows_at}

-- ---- places after which w bytes follow
pub every_at : (f : ℕ → Bool) (ps : List ℕ) (k : ℕ) → list_all f ps ≡ true → k < length ps → f (byte_at ps k) ≡ true
every_at f [] k h l = absurd (not-suc-le-zero l)
every_at f (p ∷ ps) zero h l = (both (f p) (list_all f ps) h).0
every_at f (p ∷ ps) (suc k) h l = every_at f ps k (both (f p) (list_all f ps) h).1 (le_of_suc-le-suc l)

every_so : (f : ℕ → Bool) (ps : List ℕ) → ((k : ℕ) → k < length ps → f (byte_at ps k) ≡ true) → list_all f ps ≡ true
every_so f [] g = refl
every_so f (p ∷ ps) g = rw (g 0 (omega arith)) (every_so f ps (λ k l. g (suc k) (omega arith)))

module _ (w : ℕ) (s ps : List ℕ) where
  abbrev follow : ℕ → Bool
  follow p = leb (p + 1 + w) (length s)

  pub fits : fitting w s ps ≡ true → RowsFit w s ps
  unfolding fitting
  fits h =
      let t = both (ltb 0 (length ps) && leb (length ps) 255) (list_all follow ps) h in
      let n = both (ltb 0 (length ps)) (leb (length ps) 255) t.0 in
      record { some = ltb-true _ _ n.0; few = leb-true _ _ n.1; inside = λ k l. leb-true _ _ (every_at follow ps k t.1 l) }

  -- and the other way
  pub fit_so : RowsFit w s ps → fitting w s ps ≡ true
  unfolding fitting
  fit_so f = rw (lt-ltb 0 (length ps) f.some, le-leb (length ps) 255 f.few) (every_so follow ps (λ k l. le-leb _ _ (f.inside k l)))

-- and of the places after the first
pub others_fit : (w : ℕ) (s : List ℕ) {p : ℕ} {ps others : List ℕ} → ps ≡ p ∷ others → EachFits w s ps → EachFits w s others
others_fit w s e each k h = (rw e at each) (suc k) (omega arith)

-- ---- what a rule gives of each place
pub map_at : {A B : Type 0} (f : A → B) (l : List A) (k : ℕ) (d : A) (e : B) → k < length l → get_or (map f l) k e ≡ f (get_or l k d)
map_at f [] k d e h = absurd (not-suc-le-zero h)
map_at f (x ∷ l) zero d e h = refl
map_at f (x ∷ l) (suc k) d e h = map_at f l k d e (le_of_suc-le-suc h)

module _ {B : Type 0} (f : ℕ → B) (ps : List ℕ) where
  pub given_length : length (map f ps) ≡ length ps
  given_length = length-map ps f

  pub given_at : (k : ℕ) (d : B) → k < length ps → get_or (map f ps) k d ≡ f (byte_at ps k)
  given_at k d h = map_at f ps k 0 d h

-- the string at a place of a family, as a walk over its strings meets it
pub row_here : (w : ℕ) (s ps : List ℕ) (k : ℕ) (row : List ℕ) → RowsFit w s ps → (k < length (rows_at w s ps)) × (row ≡ get_or (rows_at w s ps) k row)
    → (k < length ps) × (row ≡ take w (drop (byte_at ps k + 1) s)) × (length row ≡ w)
row_here w s ps k row fit turn =
    let h : k < length ps = omega (arith, turn.0, given_length (λ p. take w (drop (p + 1) s)) ps) in
    let same : row ≡ take w (drop (byte_at ps k + 1) s) = turn.1 ∙ given_at _ ps k row h in
    let room : w ≤ length (drop (byte_at ps k + 1) s) = simp length-drop (omega (arith, fit.inside k h)) in
    (h, same, ap length same ∙ length-take-le w (drop (byte_at ps k + 1) s) room)
