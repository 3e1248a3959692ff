-- The places of a set's strings: put one after another they are the definition's, and the strings lie there. Assumes nothing.
use Rattle.std.specs.Prelude.{Err, Ok}
use mathlib.Core.Path.{◌≡◌, refl, ◌∙◌, ap}
use mathlib.Core.List.{List, [], ◌∷◌, map, append-nil}
use Prim.Native.Nat.{ℕ, zero, suc, ◌+◌, ◌-◌, ◌≤◌, ◌<◌}
use native.Mathlib.Nat.{not-suc-le-zero, le_of_suc-le-suc}
use native.Mathlib.Numerals.{add-one}
use native.Mathlib.Omega.{arith}
use borrow.Author.Tests.{leb-true, leb-false, ltb-true, ltb-false}
use lib.Dec.{leb, ltb}
use lib.ListN.{length, take, drop, set, length-drop, get_or-append, drop_of_length-le}
use lib.Seq.{sets, sets-eq, length-take-le, take_at}
use Rattle.words.proofs.Cases.{test, choice}
use Rattle.words.specs.Lists.{byte_at}
use Rattle.refusals.specs.Result.{Result, map_ok}
use Rattle.string_set.specs.Readers.{Taken, taken, short, next, many, alone, longest_file}
use Rattle.string_set.specs.StringSet.{string, string_set, read_set}
use Rattle.string_set.specs.Places.{places_from, places_after}
use Rattle.string_set.proofs.Readers.{byte-at, byte_end}
use Rattle.string_set.proofs.Strings.{string_at, string_at_lem, string_cut}

-- ---- strings that lie in the bytes

-- each after its length byte, the first one's at a place
abbrev Lies : List ℕ → ℕ → List (List ℕ) → Type 0
Lies s at [] = Unit {0}
Lies s at (t ∷ l) = (byte_at s at ≡ length t) × (at + 1 + length t ≤ length s) × (string_at s at ≡ t) × Lies s (at + 1 + length t) l

-- those that are taken do, and those of a set
abbrev TakenLie : List ℕ → ℕ → Taken (List (List ℕ)) → Type 0
TakenLie s at short = Unit {0}
TakenLie s at (taken l r) = Lies s at l

abbrev SetLies : List ℕ → Result (List (List ℕ)) → Type 0
SetLies s (Err r) = Unit {0}
SetLies s (Ok l) = Lies s 1 l

module _ (s : List ℕ) where
  string_length : (at : ℕ) → at + 1 + byte_at s at ≤ length s → length (string_at s at) ≡ byte_at s at
  unfolding string_at
  string_length at h = length-take-le (byte_at s at) (drop (at + 1) s) (rw (length-drop (at + 1) s) (omega arith))

  lie_next : (at : ℕ) → at + 1 + byte_at s at ≤ length s → (q : Taken (List (List ℕ))) → TakenLie s (at + 1 + byte_at s at) q → TakenLie s at (next q (λ l r. taken (string_at s at ∷ l) r))
  lie_next at h short g = tt
  lie_next at h (taken l r) g = rw (string_length at h) (refl, h, refl, g)

  many_lie : (n at : ℕ) → TakenLie s at (many string n (drop at s))
  unfolding many
  many_lie zero at = tt
  many_lie (suc n) at =
      let end = at + 1 + byte_at s at in
      test (leb end (length s))
      (λ t. let h = leb-true end (length s) t in rw (string_at_lem s at h) (lie_next at h (many string n (drop end s)) (many_lie n end)))
      (λ t. rw (string_cut s at (leb-false end (length s) t)) tt)

  alone_lie : (q : Taken (List (List ℕ))) → TakenLie s 1 q → SetLies s (alone q)
  alone_lie short g = tt
  alone_lie (taken l []) g = g
  alone_lie (taken l (x ∷ r)) g = tt

  set_lies : SetLies s (read_set s)
  unfolding read_set string_set
  set_lies =
      choice (SetLies s) (ltb longest_file (length s)) _ _ (λ t. tt)
      (λ t. test (ltb 0 (length s))
      (λ k. rw (byte-at s 0 (ltb-true 0 (length s) k)) (alone_lie (many string (byte_at s 0) (drop 1 s)) (many_lie (byte_at s 0) 1)))
      (λ k. rw (byte_end s 0 (ltb-false 0 (length s) k)) tt))

-- ---- putting their places

-- those of the strings of a set that is read
abbrev pub places_of : Result (List (List ℕ)) → List ℕ
places_of (Err r) = []
places_of (Ok l) = places_from 1 l

-- strings of which k are placed lie from a place on, n in all, and with their places it is done
abbrev pub ToPlace : List ℕ → List ℕ → ℕ → List ℕ → ℕ → ℕ → Type 0
ToPlace s done n ps k at = (l : List (List ℕ)) × Lies s at l × (length l ≡ n - k) × (sets ps k (places_from at l) ≡ done)

places_length : (at : ℕ) (l : List (List ℕ)) → length (places_from at l) ≡ length l
places_length at [] = refl
places_length at (t ∷ l) = ap suc (places_length (at + 1 + length t) l)

to_place_read : (s ps : List ℕ) (n : ℕ) (t : Result (List (List ℕ))) → SetLies s t → Ok n ≡ map_ok length t → length ps ≡ n → ToPlace s (places_of t) n ps 0 1
to_place_read s ps n (Err r) g e h = absurd (cc)
to_place_read s ps n (Ok l) g e h =
    let size : n ≡ length l = cc in
    let m = places_length 1 l in
    let d : drop (0 + length (places_from 1 l)) ps ≡ [] = drop_of_length-le ps (omega arith) in
    (l, g, omega arith, sets-eq (places_from 1 l) ps 0 (omega arith) ∙ rw d (append-nil (places_from 1 l)))

-- none is placed yet
pub to_place_all : (s ps : List ℕ) (n : ℕ) → Ok n ≡ map_ok length (read_set s) → length ps ≡ n → ToPlace s (places_of (read_set s)) n ps 0 1
to_place_all s ps n e h = to_place_read s ps n (read_set s) (set_lies s) e h

-- one more: its string ends within the bytes
to_place_one : (s done ps : List ℕ) (n k at : ℕ) → k < n → (l : List (List ℕ)) → Lies s at l → length l ≡ n - k → sets ps k (places_from at l) ≡ done
    → (at + 1 + byte_at s at ≤ length s) × ToPlace s done n (set ps k at) (k + 1) (at + 1 + byte_at s at)
to_place_one s done ps n k at h [] g size e = absurd (omega arith)
to_place_one s done ps n k at h (t ∷ l) g size e = rw g.0 (g.1, (l, g.3, omega arith, rw (add-one k) e))

module _ (s done ps : List ℕ) (n k at : ℕ) (p : ToPlace s done n ps k at) where
  pub to_place_inside : k < n → at + 1 + byte_at s at ≤ length s
  to_place_inside h = (to_place_one s done ps n k at h p.0 p.1 p.2 p.3).0

  pub to_place_more : k < n → ToPlace s done n (set ps k at) (k + 1) (at + 1 + byte_at s at)
  to_place_more h = (to_place_one s done ps n k at h p.0 p.1 p.2 p.3).1

-- ---- what lies at the places

-- the first n places are those of strings that end within the bytes
abbrev Inside : List ℕ → List ℕ → ℕ → Type 0
Inside s ps n = (k : ℕ) → k < n → byte_at ps k + 1 + byte_at s (byte_at ps k) ≤ length s

-- the strings of a set lie at the first places, and are at most 255
abbrev pub Placed : List ℕ → Result (List (List ℕ)) → List ℕ → Type 0
Placed s (Err r) ps = Unit {0}
Placed s (Ok l) ps = (map (string_at s) (take (length l) ps) ≡ l) × (length l < 256) × Inside s ps (length l)

module _ (s : List ℕ) where
  lying_there : (at : ℕ) (l : List (List ℕ)) → Lies s at l → map (string_at s) (places_from at l) ≡ l
  lying_there at [] g = refl
  lying_there at (t ∷ l) g = rw (g.2, lying_there (at + 1 + length t) l g.3)

  lying_inside : (at : ℕ) (l : List (List ℕ)) → Lies s at l → Inside s (places_from at l) (length l)
  lying_inside at [] g k h = absurd (not-suc-le-zero h)
  lying_inside at (t ∷ l) g zero h = rw g.0 g.1
  lying_inside at (t ∷ l) g (suc k) h = lying_inside (at + 1 + length t) l g.3 k (le_of_suc-le-suc h)

  placed_of : (n : ℕ) (before ps : List ℕ) (t : Result (List (List ℕ))) → SetLies s t → n ≤ 255 → Ok n ≡ map_ok length t → ps ≡ places_after t before → Placed s t ps
  placed_of n before ps (Err r) g h e f = absurd (cc)
  placed_of n before ps (Ok l) g h e f =
      let rest : List ℕ = drop (length l) before in
      let size = places_length 1 l in
      let same : n ≡ length l = cc in (
        rw (f, take_at (places_from 1 l) rest (length l) size) (lying_there 1 l g),
        omega arith,
        λ k i. rw (f, get_or-append (places_from 1 l) rest 0 k (rw size i)) (lying_inside 1 l g k i),
      )

  -- by what `read_places` ensures of a set that it reads
  pub placed : (n : ℕ) (before ps : List ℕ) → n ≤ 255 → Ok n ≡ map_ok length (read_set s) → ps ≡ places_after (read_set s) before → Placed s (read_set s) ps
  placed n before ps h e f = placed_of n before ps (read_set s) (set_lies s) h e f
