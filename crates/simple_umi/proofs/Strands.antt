-- The strings of a strand: how a string ends, and those kept one after another. Assumes nothing.
use mathlib.Core.Path.{◌≡◌, refl, sym, ◌∙◌, ap}
use mathlib.Core.Bool.{Bool, true, false, ◌&&◌, and-true, and-false}
use mathlib.Core.List.{List, [], ◌∷◌, ◌++◌, map-append, append_assoc, append-nil}
use Prim.Native.Nat.{ℕ, ◌+◌, ◌-◌, ◌≤◌, ◌<◌}
use native.Mathlib.Nat.{ne_of_lt}
use native.Mathlib.Numerals.{add-one}
use native.Mathlib.Omega.{arith}
use borrow.Author.Count.{below_more}
use borrow.Author.Tests.{ltb-true, ltb-false}
use lib.Dec.{eqb, ltb}
use lib.ListN.{length, take, drop, set, drop_of_length-le, length-set}
use lib.Seq.{take-suc-set, take-take, length-take-le, get_or-take, get_or-drop, get_or-set_same, get_or-set_other}
use Rattle.words.proofs.Cases.{test, clash}
use Rattle.words.specs.Lists.{byte_at}
use Rattle.lent_bytes.proofs.Lists.{bytes_from}
use Rattle.simple_consensus.specs.Places.{Trimmed, trimmed_at, strings_at}
use Rattle.simple_consensus.proofs.Groups.{trimmed_length}
use Rattle.simple_umi.specs.Duplex.{ends_in, strand_of}

-- ---- how a string ends

-- a string of one byte or none
ends_short : (letter : ℕ) (t : List ℕ) → length t < 2 → ends_in letter t ≡ false
unfolding ends_in
ends_short letter [] h = refl
ends_short letter (x ∷ []) h = and-false (eqb x 47)
ends_short letter (x ∷ y ∷ t) h = absurd (omega arith)

-- a longer one, by its last two bytes
ends_long : (letter : ℕ) (t : List ℕ) → 2 ≤ length t → ends_in letter t ≡ (eqb (byte_at t (length t - 2)) 47 && eqb (byte_at t (length t - 2 + 1)) letter)
unfolding ends_in
ends_long letter t h =
    let m = length t - 2 in
    rw (bytes_from t m (omega arith), bytes_from t (m + 1) (omega arith), drop_of_length-le t {i = m + 1 + 1} (omega arith), and-true (eqb (byte_at t (m + 1)) letter))

-- ---- the string at a place

module _ (s : List ℕ) (p : ℕ) (inside : p + 1 + byte_at s p ≤ length s) where
  string_length : length (trimmed_at 0 s p) ≡ byte_at s p
  string_length = trimmed_length 0 s p inside ∙ omega arith

  string_byte : (i : ℕ) → i < byte_at s p → byte_at (trimmed_at 0 s p) i ≡ byte_at s (p + 1 + i)
  unfolding trimmed_at
  string_byte i h = get_or-take (byte_at s p - 0) (drop (p + 1) s) i 0 (omega arith) ∙ get_or-drop (p + 1) s i 0

  -- without its last two bytes
  string_trimmed : take (length (trimmed_at 0 s p) - 2) (trimmed_at 0 s p) ≡ trimmed_at 2 s p
  unfolding trimmed_at
  string_trimmed = rw string_length (take-take (byte_at s p - 2) (byte_at s p - 0) (drop (p + 1) s) (omega arith))

  module _ (letter n : ℕ) (e : n ≡ byte_at s p) where
    pub at_short : n < 2 → false ≡ ends_in letter (trimmed_at 0 s p)
    at_short h = sym (ends_short letter (trimmed_at 0 s p) (omega (arith, string_length)))

    pub at_long : 2 ≤ n → (eqb (byte_at s (p + n - 1)) 47 && eqb (byte_at s (p + n)) letter) ≡ ends_in letter (trimmed_at 0 s p)
    at_long h =
        let t = trimmed_at 0 s p in
        let l : length t ≡ n = string_length ∙ sym e in
        let a : p + 1 + (n - 2) ≡ p + n - 1 = omega arith in
        let b : p + 1 + (n - 2 + 1) ≡ p + n = omega arith in
        let x : byte_at t (length t - 2) ≡ byte_at s (p + n - 1) = rw l (string_byte (n - 2) (omega arith) ∙ ap (byte_at s) a) in
        let y : byte_at t (length t - 2 + 1) ≡ byte_at s (p + n) = rw l (string_byte (n - 2 + 1) (omega arith) ∙ ap (byte_at s) b) in
        sym (ends_long letter t (omega arith) ∙ rw (x, y))

-- ---- the strings of a strand

module _ (letter : ℕ) (t : List ℕ) (ts : List (List ℕ)) where
  pub strand_kept : ends_in letter t ≡ true → strand_of letter (t ∷ ts) ≡ take (length t - 2) t ∷ strand_of letter ts
  unfolding strand_of
  strand_kept e = rw e

  pub strand_left : ends_in letter t ≡ false → strand_of letter (t ∷ ts) ≡ strand_of letter ts
  unfolding strand_of
  strand_left e = rw e

-- a kept string has the two bytes
ends_two : (letter : ℕ) (t : List ℕ) → ends_in letter t ≡ true → 2 ≤ length t
ends_two letter t e = test (ltb (length t) 2) (λ h. clash (ends_short letter t (ltb-true (length t) 2 h)) e) (λ h. ltb-false (length t) 2 h)

-- the strings kept so far, and those to keep of what is left
abbrev pub strand_to : ℕ → List ℕ → List ℕ → ℕ → List ℕ → ℕ → List (List ℕ)
strand_to letter s kept n ps k = strings_at 2 s (take n kept) ++ strand_of letter (strings_at 0 s (drop k ps))

-- a turn of the loop: of the strings at ps, the first k are passed, and n of them kept
module _ (letter : ℕ) (s ps : List ℕ) (k : ℕ) (kept : List ℕ) (n : ℕ) where
  -- none is left
  pub strand_done : length ps ≤ k → strand_to letter s kept n ps k ≡ strings_at 2 s (take n kept)
  unfolding strand_of
  strand_done h = rw (drop_of_length-le ps {i = k} h, append-nil (strings_at 2 s (take n kept)))

  -- one more is kept
  strand_more : k < length ps → n < length kept → byte_at ps k + 1 + byte_at s (byte_at ps k) ≤ length s → ends_in letter (trimmed_at 0 s (byte_at ps k)) ≡ true
      → strand_to letter s (set kept n (byte_at ps k)) (n + 1) ps (k + 1) ≡ strand_to letter s kept n ps k
  strand_more h g i e =
      let p = byte_at ps k in
      let rest = strings_at 0 s (drop (k + 1) ps) in
      rw (bytes_from ps k h, strand_kept letter (trimmed_at 0 s p) rest e, string_trimmed s p i, add-one n, take-suc-set kept n p g)
      (rw (map-append (trimmed_at 2 s) (take n kept) (p ∷ [])) (append_assoc (strings_at 2 s (take n kept)) (trimmed_at 2 s p ∷ []) (strand_of letter rest)))

  -- one is passed over
  strand_same : k < length ps → ends_in letter (trimmed_at 0 s (byte_at ps k)) ≡ false → strand_to letter s kept n ps (k + 1) ≡ strand_to letter s kept n ps k
  strand_same h e = rw (bytes_from ps k h, strand_left letter (trimmed_at 0 s (byte_at ps k)) (strings_at 0 s (drop (k + 1) ps)) e)

-- the first n places are those of strings of two bytes or more
abbrev Longer : List ℕ → List ℕ → ℕ → Type 0
Longer s kept n = (j : ℕ) → j < n → (byte_at kept j + 1 + byte_at s (byte_at kept j) ≤ length s) × (2 ≤ byte_at s (byte_at kept j))

longer_more : (s kept : List ℕ) (n p : ℕ) → n < length kept → p + 1 + byte_at s p ≤ length s → 2 ≤ byte_at s p → Longer s kept n → Longer s (set kept n p) (n + 1)
longer_more s kept n p h i l g =
    below_more (λ (j : ℕ). (byte_at (set kept n p) j + 1 + byte_at s (byte_at (set kept n p) j) ≤ length s) × (2 ≤ byte_at s (byte_at (set kept n p) j))) n
    (λ j k. rw (get_or-set_other kept n j p 0 (ne_of_lt k)) (g j k))
    (rw (get_or-set_same kept n p 0 h) (i, l))

pub longer_trimmed : (s kept : List ℕ) (n : ℕ) → n ≤ length kept → n ≤ 255 → Longer s kept n → Trimmed 2 s (take n kept)
longer_trimmed s kept n h m g =
    let size : length (take n kept) ≡ n = length-take-le n kept h in
    (omega arith, λ j l. let k : j < n = omega arith in rw (get_or-take n kept j 0 k) (g j k))

-- what holds of them at each turn, in a list of this size
abbrev pub Kept : ℕ → List ℕ → List ℕ → ℕ → ℕ → List ℕ → ℕ → Type 0
Kept letter s ps size k kept n = (k ≤ length ps) × (n ≤ k) × (length kept ≡ size) × (strand_to letter s kept n ps k ≡ strand_of letter (strings_at 0 s ps)) × Longer s kept n

-- a turn, at the place p: what the string's end says, and what is kept then
pub record Turn (letter : ℕ) (s ps : List ℕ) (size k : ℕ) (kept : List ℕ) (n p : ℕ) (ends : Bool) : Type 0 where
  pub more : ends ≡ true → (kept' : List ℕ) (n' : ℕ) → kept' ≡ set kept n p → n' ≡ n + 1 → Kept letter s ps size (k + 1) kept' n'
  pub same : ends ≡ false → (kept' : List ℕ) (n' : ℕ) → kept' ≡ kept → n' ≡ n → Kept letter s ps size (k + 1) kept' n'

module _ (letter : ℕ) (s ps : List ℕ) (size k : ℕ) (kept : List ℕ) (n : ℕ) (h : Kept letter s ps size k kept n) (few : length ps ≤ size) (l : k < length ps) where
  pub kept_turn : (inside : byte_at ps k + 1 + byte_at s (byte_at ps k) ≤ length s) (ends : Bool) → ends ≡ ends_in letter (trimmed_at 0 s (byte_at ps k))
      → Turn letter s ps size k kept n (byte_at ps k) ends
  kept_turn inside ends r = record {
    more = λ t kept' n' f g.
        let yes : ends_in letter (trimmed_at 0 s (byte_at ps k)) ≡ true = sym r ∙ t in
        let two : 2 ≤ byte_at s (byte_at ps k) = rw (string_length s (byte_at ps k) inside) at (ends_two letter (trimmed_at 0 s (byte_at ps k)) yes) in
        rw (f, g) (
          omega arith,
          omega arith,
          simp length-set h.2,
          strand_more letter s ps k kept n l (omega arith) inside yes ∙ h.3,
          longer_more s kept n (byte_at ps k) (omega arith) inside two h.4,
        );
    same = λ t kept' n' f g. rw (f, g) (omega arith, omega arith, h.2, strand_same letter s ps k kept n l (sym r ∙ t) ∙ h.3, h.4);
  }
