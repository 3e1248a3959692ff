-- Reading off the front of what a place leaves of the bytes; and a loop over parts of one kind, whatever the kind. Assumes nothing.
use Rattle.std.specs.Prelude.{Option, Some, None, Err, Ok}
use Rattle.std.specs.Option.{MatchOption}
use Rattle.std.specs.List.{IsSplitAt}
use Rattle.std.proofs.lemmas.List.{nil_from_length}
use denote.Ref.{Bor}
use mathlib.Core.Path.{◌≡◌, refl, sym, ◌∙◌, ap}
use mathlib.Core.List.{List, [], ◌∷◌, ◌++◌, append-nil, append_assoc}
use Prim.Native.Nat.{ℕ, suc, ◌+◌, ◌-◌, ◌*◌, ◌≤◌, ◌<◌}
use native.Mathlib.Omega.{arith}
use Rattle.std.specs.Bool.{◌==◌}
use mathlib.Core.Bool.{true, false}
use borrow.Author.Tests.{eqb-true, lt-ltb, le-ltb, le-leb, lt-leb, ltb-true, ltb-false}
use lib.Dec.{ltb}
use lib.ListN.{length, take, drop, drop_of_length-le, length-drop, length-append}
use lib.Seq.{drop-drop}
use Rattle.words.proofs.Cases.{test}
use Rattle.words.specs.Lists.{byte_at}
use Rattle.lent_bytes.proofs.Lists.{bytes_from}
use Rattle.refusals.specs.declared.Refusal.TheVariants.{FileTooLong, CutOff}
use Rattle.refusals.specs.Result.{and_then}
use Rattle.string_set.specs.Readers.{Taken, taken, short, next, byte, word, front, many, alone, lone, longest_file}

module _ (s : List ℕ) (at : ℕ) where
  pub byte-at : at < length s → byte (drop at s) ≡ taken (byte_at s at) (drop (at + 1) s)
  unfolding byte
  byte-at h = rw (bytes_from s at h)

  pub byte_end : length s ≤ at → byte (drop at s) ≡ short
  unfolding byte
  byte_end h = rw (drop_of_length-le s h)

  pub front_at : (n : ℕ) → at + n ≤ length s → front n (drop at s) ≡ taken (take n (drop at s)) (drop (at + n) s)
  unfolding front
  front_at n h = rw (le-leb n (length (drop at s)) (rw (length-drop at s) (omega arith)), drop-drop n at s)

  pub front-end : (n : ℕ) → at ≤ length s → length s < at + n → front n (drop at s) ≡ short
  unfolding front
  front-end n k h = rw (lt-leb n (length (drop at s)) (rw (length-drop at s) (omega arith)))

-- a count of two bytes at a place
module _ (s : List ℕ) (at : ℕ) where
  pub word_at_lem : at + 2 ≤ length s → word (drop at s) ≡ taken (byte_at s at + 256 * byte_at s (at + 1)) (drop (at + 2) s)
  unfolding word
  word_at_lem h =
      let e : at + 2 ≡ at + 1 + 1 = omega arith in
      rw (byte-at s at (omega arith), byte-at s (at + 1) (omega arith), e)

  pub word_end : length s < at + 2 → word (drop at s) ≡ short
  unfolding word
  word_end h =
      test (ltb at (length s))
      (λ t. rw (byte-at s at (ltb-true at (length s) t), byte_end s (at + 1) (omega arith)))
      (λ t. rw (byte_end s at (ltb-false at (length s) t)))

-- a part alone
module _ {A : Type 0} (one : List ℕ → Taken A) (s : List ℕ) where
  -- over 65,536 bytes
  pub lone_long : longest_file < length s → lone one s ≡ Err FileTooLong
  lone_long h = rw (lt-ltb longest_file (length s) h)

  module _ (h : length s ≤ longest_file) where
    pub lone_fits : lone one s ≡ alone (one s)
    lone_fits = rw (le-ltb longest_file (length s) h)

    -- the bytes do not reach
    pub lone_cut : one s ≡ short → lone one s ≡ Err CutOff
    lone_cut e = rw (le-ltb longest_file (length s) h, e)

    -- bytes are left, by the test of that
    pub lone_left : {a : A} (rest : List ℕ) → one s ≡ taken a rest → false ≡ (length rest == 0) → lone one s ≡ Err CutOff
    lone_left [] e k = absurd (cc)
    lone_left (x ∷ r) e k = rw (le-ltb longest_file (length s) h, e)

    -- it is all of them
    pub lone_all : {a : A} (rest : List ℕ) → one s ≡ taken a rest → true ≡ (length rest == 0) → lone one s ≡ Ok a
    lone_all rest e k = rw (le-ltb longest_file (length s) h, e, nil_from_length rest (eqb-true (length rest) 0 (sym k)))

-- what follows the last part read decides, whatever is made of that part
pub alone_next : {A B : Type 0} (f : A → B) (t : Taken A) → alone (next t (λ a r. taken (f a) r)) ≡ and_then (alone t) (λ a. Ok (f a))
alone_next f short = refl
alone_next f (taken a []) = refl
alone_next f (taken a (x ∷ r)) = refl

-- the parts that were read already, and then those still to read
abbrev pub prepend : {A : Type 0} → List A → Taken (List A) → Taken (List A)
prepend l short = short
prepend l (taken m r) = taken (l ++ m) r

pub prepend_none : {A : Type 0} (t : Taken (List A)) → prepend [] t ≡ t
prepend_none short = refl
prepend_none (taken m r) = refl

prepend_next : {A : Type 0} (l : List A) (a : A) (t : Taken (List A)) → prepend l (next t (λ m r. taken (a ∷ m) r)) ≡ prepend (l ++ (a ∷ [])) t
prepend_next l a short = refl
prepend_next {A} l a (taken m r) = ap (λ (j : List A). taken j r) (sym (append_assoc l (a ∷ []) m))

-- what std's cut at a place gives of the front
pub front_cut : (n : ℕ) (s : List ℕ) (r : Option (Bor (List ℕ) × Bor (List ℕ))) → MatchOption r (length s < n) (λ p. IsSplitAt s n p.0.now p.1.now) → MatchOption r (front n s ≡ short) (λ p. front n s ≡ taken p.0.now p.1.now)
unfolding front
front_cut n s None h = rw (lt-leb n (length s) h)
front_cut n s (Some p) h = rw (le-leb n (length s) h.0, h.1, h.2)

-- a loop over n parts: k of them are passed, and with those that the rest begins with they are what all the bytes begin with
abbrev pub Passed : {A : Type 0} → (List ℕ → Taken A) → List ℕ → ℕ → ℕ → List ℕ → Type 0
Passed {A} one all n k rest = (l : List A) × (length l ≡ k) × (prepend l (many one (n - k) rest) ≡ many one n all)

module _ {A : Type 0} (one : List ℕ → Taken A) (all : List ℕ) (n : ℕ) where
  pub passed_none : (p : Passed one all n 0 all) × (p.0 ≡ [])
  passed_none =
      let e : n - 0 ≡ n = omega arith in
      (([], refl, rw e (prepend_none (many one n all))), refl)

  module _ (k : ℕ) (rest : List ℕ) (p : Passed one all n k rest) where
    -- one more
    pub passed_more : k < n → {a : A} {t : List ℕ} → one rest ≡ taken a t → (q : Passed one all n (k + 1) t) × (q.0 ≡ p.0 ++ (a ∷ []))
    unfolding many
    passed_more h {a} {t} e =
        let f : n - k ≡ suc (n - (k + 1)) = omega arith in
        let go : prepend p.0 (many one (suc (n - (k + 1))) rest) ≡ prepend (p.0 ++ (a ∷ [])) (many one (n - (k + 1)) t) = rw e (prepend_next p.0 a (many one (n - (k + 1)) t)) in
        ((p.0 ++ (a ∷ []), omega (arith, length-append p.0 (a ∷ []), p.1), sym go ∙ rw f at p.2), refl)

    -- the bytes do not reach
    pub passed_cut : k < n → one rest ≡ short → many one n all ≡ short
    unfolding many
    passed_cut h e =
        let f : n - k ≡ suc (n - (k + 1)) = omega arith in
        let go : prepend p.0 (many one (suc (n - (k + 1))) rest) ≡ short = rw e in
        sym (rw f at p.2) ∙ go

    -- all n
    pub passed_all : n ≤ k → many one n all ≡ taken p.0 rest
    unfolding many
    passed_all h =
        let f : n - k ≡ 0 = omega arith in
        sym (rw f at p.2) ∙ ap (λ (l : List A). taken l rest) (append-nil p.0)
