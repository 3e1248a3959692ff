-- The verdict on a column: by the code's tests, and what SCOPE 7 says of it. Assumes nothing.
use Rattle.std.specs.Prelude.{Err, Ok}
use Rattle.refusals.specs.Result.{Verdict}
use Rattle.std.specs.List.{list_all, list_any}
use mathlib.Core.Path.{◌≡◌, refl, sym, ap, ◌∙◌}
use mathlib.Core.Bool.{Bool, true, false, not}
use mathlib.Core.List.{List, [], ◌∷◌}
use Prim.Native.Nat.{ℕ, ◌<◌}
use native.Mathlib.Omega.{arith}
use lib.Dec.{eqb}
use lib.ListN.{length}
use borrow.Author.Tests.{eqb-true, eq-eqb}
use Rattle.words.proofs.Cases.{test, clash, both, and-false}
use Rattle.words.specs.Lists.{byte_at}
use Rattle.refusals.specs.declared.Refusal.TheVariants.{UnlikeFirst, Mixed}
use Rattle.refusals.specs.Refusals.{number_in}
use Rattle.umi_column.specs.Dna.{is_dna_base}
use Rattle.umi_column.specs.Verdicts.{is_unlike, is_mixed, verdict_of, verdict_number_of}
use Rattle.words.proofs.Tests.{none_by_none, none_by_every}

-- no DNA
abbrev is_other : ℕ → Bool
is_other x = not (is_dna_base x)

-- a byte like a first one that is DNA, or DNA itself
alike : (first x : ℕ) → is_dna_base first ≡ true → is_unlike first x ≡ false → is_other x ≡ false
alike first x d u =
    test (is_dna_base x) (λ e. ap not e)
    (λ e. test (eqb x first) (λ k. clash e (ap is_dna_base (eqb-true x first k) ∙ d)) (λ k. clash u (rw (e, k))))

-- a first byte that is no DNA is one of the column
first_other : (column : List ℕ) → 0 < length column → is_dna_base (byte_at column 0) ≡ false → list_any is_other column ≡ true
first_other [] h e = absurd (omega arith)
first_other (x ∷ xs) h e = rw e

-- a column in which a byte passes a test has one
some_byte : (column : List ℕ) → list_any is_dna_base column ≡ true → 0 < length column
some_byte [] h = clash refl h
some_byte (x ∷ xs) h = omega arith

-- no bytes
pub none_sound : (column : List ℕ) → length column ≡ 0 → verdict_of column ≡ Ok tt
unfolding verdict_of is_mixed
none_sound [] h = refl
none_sound (x ∷ xs) h = absurd (omega arith)

pub unlike_refused : (column : List ℕ) → list_any (is_unlike (byte_at column 0)) column ≡ true → verdict_of column ≡ Err UnlikeFirst
unfolding verdict_of
unlike_refused column u = rw u

-- where all non-DNA bytes are like the first
module _ (column : List ℕ) (u : list_any (is_unlike (byte_at column 0)) column ≡ false) where
  pub first_dna_sound : is_dna_base (byte_at column 0) ≡ true → verdict_of column ≡ Ok tt
  unfolding verdict_of is_mixed
  first_dna_sound d =
      let first = byte_at column 0 in
      rw (u, none_by_none (is_unlike first) is_other (λ x. alike first x d) column u, and-false)

  pub mixed_refused : 0 < length column → is_dna_base (byte_at column 0) ≡ false → list_any is_dna_base column ≡ true → verdict_of column ≡ Err Mixed
  unfolding verdict_of is_mixed
  mixed_refused h e d = rw (u, d, first_other column h e)

  pub no_dna_sound : list_any is_dna_base column ≡ false → verdict_of column ≡ Ok tt
  unfolding verdict_of is_mixed
  no_dna_sound d = rw (u, d)

-- a column of DNA alone is accepted
pub all_dna_sound : (column : List ℕ) → list_all is_dna_base column ≡ true → verdict_of column ≡ Ok tt
unfolding verdict_of is_mixed
all_dna_sound column h =
    rw (
      none_by_every is_dna_base (is_unlike (byte_at column 0)) (λ x d. rw d) column h,
      none_by_every is_dna_base is_other (λ x d. ap not d) column h,
      and-false,
    )

-- so is one of a single non-DNA byte, however often
pub all_same_sound : (x : ℕ) (column : List ℕ) → is_dna_base x ≡ false → list_all (λ y. eqb y x) column ≡ true → verdict_of column ≡ Ok tt
all_same_sound x [] e h = none_sound [] refl
all_same_sound x (y ∷ ys) e h =
    let is : ℕ → Bool = λ z. eqb z x in
    let first = eqb-true y x (both (is y) (list_all is ys) h).0 in
    no_dna_sound (y ∷ ys)
    (none_by_every is (is_unlike y) (λ z k. rw (eq-eqb z y (eqb-true z x k ∙ sym first), and-false)) (y ∷ ys) h)
    (none_by_every is is_dna_base (λ z k. ap is_dna_base (eqb-true z x k) ∙ e) (y ∷ ys) h)

-- the verdict's number
verdict_number_lem : (column : List ℕ) → number_in (verdict_of column) ≡ verdict_number_of column
unfolding verdict_of verdict_number_of
verdict_number_lem column =
    test (list_any (is_unlike (byte_at column 0)) column) (λ u. rw u) (λ u. test (is_mixed column) (λ m. rw (u, m)) (λ m. rw (u, m)))

-- ---- a verdict with its number, by the tests of a column and of its first byte
pub record Said (column : List ℕ) (v : Verdict) : Type 0 where
  pub verdict : v ≡ verdict_of column
  pub number : number_in v ≡ verdict_number_of column

said : (column : List ℕ) (v : Verdict) → verdict_of column ≡ v → Said column v
said column v e = record { verdict = sym e; number = ap number_in (sym e) ∙ verdict_number_lem column }

module _ (column : List ℕ) (first : ℕ) (is_first : first ≡ byte_at column 0) where
  pub said_unlike : true ≡ list_any (is_unlike first) column → Said column (Err UnlikeFirst)
  said_unlike u = said column _ (unlike_refused column (sym (rw is_first at u)))

  module _ (u : false ≡ list_any (is_unlike first) column) where
    none_unlike : list_any (is_unlike (byte_at column 0)) column ≡ false
    none_unlike = sym (rw is_first at u)

    pub said_dna : is_dna_base first ≡ true → Said column (Ok tt)
    said_dna d = said column _ (first_dna_sound column none_unlike (rw is_first at d))

    pub said_mixed : is_dna_base first ≡ false → list_any is_dna_base column ≡ true → Said column (Err Mixed)
    said_mixed o d = said column _ (mixed_refused column none_unlike (some_byte column d) (rw is_first at o) d)

    pub said_other : list_any is_dna_base column ≡ false → Said column (Ok tt)
    said_other d = said column _ (no_dna_sound column none_unlike d)
