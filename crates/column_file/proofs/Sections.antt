-- The sections of a file by their places, forwards and backwards, and what is made of them. Assumes nothing.
use Rattle.std.specs.Prelude.{Err, Ok}
use mathlib.Core.Path.{◌≡◌, refl, sym, ◌∙◌, ap, subst}
use mathlib.Core.List.{List}
use Prim.Native.Nat.{ℕ, ◌+◌, ◌≤◌, ◌<◌}
use native.Mathlib.Omega.{arith}
use borrow.Author.Tests.{leb-true, leb-false}
use lib.Dec.{leb}
use lib.ListN.{length, drop, length-drop}
use Rattle.words.proofs.Cases.{test}
use Rattle.words.specs.Lists.{byte_at}
use Rattle.refusals.specs.Result.{Result, and_then}
use Rattle.string_set.specs.Readers.{Taken, taken, short, many, alone, longest_file}
use Rattle.string_set.specs.StringSet.{string_set, read_set}
use Rattle.string_set.proofs.Readers.{word_at_lem, word_end, lone_fits, alone_next}
use Rattle.column_file.specs.Format.{Observation, column, columns, Sections, sections}
use Rattle.column_file.specs.Places.{word_at, columns_at, columns_size}
use Rattle.column_file.proofs.ColumnWalk.{Ended, ended}
use Rattle.column_file.proofs.SettingsRead.{bytes_of, settings_at_lem, settings_cut}

-- what was accepted came of something accepted
pub record Came {A B : Type 0} (q : Result A) (f : A → Result B) (b : B) : Type 0 where
  pub of : A
  pub is : q ≡ Ok of
  pub gave : f of ≡ Ok b

-- by cases
pub came : {A B : Type 0} (q : Result A) (f : A → Result B) (b : B) → and_then q f ≡ Ok b → Came q f b
came (Err r) f b e = absurd (cc)
came (Ok a) f b e = record { of = a; is = refl; gave = e }

-- ---- forwards

-- the three sections, of the columns and the strings
abbrev pub sections_of : List ℕ → List (List Observation) → List (List ℕ) → Sections
sections_of s cs l = record { settings = bytes_of s; columns = cs; strings = l }

module _ (s : List ℕ) where
  -- the number of columns
  abbrev pub announced_in : ℕ
  announced_in = word_at s (1 + byte_at s 0)

  -- where the first one is
  abbrev pub first_in : ℕ
  first_in = 3 + byte_at s 0

  -- the bytes do not reach there
  pub sections_cut : length s < first_in → sections s ≡ short
  unfolding sections columns
  sections_cut h =
      test (leb (1 + byte_at s 0) (length s))
      (λ t. rw (settings_at_lem s (leb-true _ _ t), word_end s (1 + byte_at s 0) (omega arith)))
      (λ t. rw (settings_cut s (leb-false _ _ t)))

  module _ (h : first_in ≤ length s) where
    -- the number of columns stands before them
    same : 1 + byte_at s 0 + 2 ≡ first_in
    same = omega arith

    -- nor to the columns' end
    pub columns_cut : many column announced_in (drop first_in s) ≡ short → sections s ≡ short
    unfolding sections columns
    columns_cut e = rw (settings_at_lem s (omega arith), word_at_lem s (1 + byte_at s 0) (omega arith), same, e)

    module _ (fits : length s ≤ longest_file) (cs : List (List Observation)) (place : ℕ) (e : many column announced_in (drop first_in s) ≡ taken cs (drop place s)) where
      -- what follows them is the string set
      pub sections_next : alone (sections s) ≡ and_then (read_set (drop place s)) (λ l. Ok (sections_of s cs l))
      unfolding sections columns read_set
      sections_next =
          let f : List (List ℕ) → Sections = sections_of s cs in
          let k : length (drop place s) ≤ longest_file = rw (length-drop place s) (omega arith) in
          let fit = sym (lone_fits string_set (drop place s) k) in
          rw (settings_at_lem s (omega arith), word_at_lem s (1 + byte_at s 0) (omega arith), same, e)
          (alone_next f (string_set (drop place s)) ∙ ap (λ (q : Result (List (List ℕ))). and_then q (λ l. Ok (f l))) fit)

-- ---- backwards

-- the sections by their places
pub record Parts (s : List ℕ) (f : Sections) : Type 0 where
  pub reaches : first_in s ≤ length s
  pub settings : f.settings ≡ bytes_of s
  pub columns : columns_at s (first_in s) (length f.columns) ≡ f.columns
  pub inside : first_in s + columns_size f.columns ≤ length s
  pub strings : read_set (drop (first_in s + columns_size f.columns) s) ≡ Ok f.strings

module _ (s : List ℕ) (fits : length s ≤ longest_file) (f : Sections) (e : alone (sections s) ≡ Ok f) where
  -- from what the columns are read as
  parts_of : first_in s ≤ length s → (t : Taken (List (List Observation))) → many column (announced_in s) (drop (first_in s) s) ≡ t
      → Ended s (first_in s) (announced_in s) t → Parts s f
  parts_of h short k d = absurd (cc (ap alone (columns_cut s h k)))
  parts_of h (taken cs r) k d =
      let place = first_in s + columns_size cs in
      let next = sections_next s h fits cs place (k ∙ ap (taken cs) d.0) in
      let g = came (read_set (drop place s)) (λ l. Ok (sections_of s cs l)) f (sym next ∙ e) in
      let is : sections_of s cs g.of ≡ f = cc g.gave in
      subst (Parts s) is (record { reaches = h; settings = refl; columns = rw d.3 d.2; inside = d.1; strings = g.is })

  -- the bytes reach so far, or nothing is accepted
  pub parts : Parts s f
  parts =
      test (leb (first_in s) (length s))
      (λ t.
      let h : first_in s ≤ length s = leb-true _ _ t in
      parts_of h (many column (announced_in s) (drop (first_in s) s)) refl (ended s (first_in s) (announced_in s) h))
      (λ t. absurd (cc (ap alone (sections_cut s (leb-false _ _ t)))))
