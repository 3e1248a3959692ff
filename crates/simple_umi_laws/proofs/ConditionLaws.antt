-- What is refused of every list of strings, and for want of room. Assumes nothing.
use Rattle.std.specs.Prelude.{Err, Ok}
use Rattle.std.specs.List.{list_any}
use mathlib.Core.Path.{◌≡◌, refl, ◌∙◌}
use mathlib.Core.Bool.{true, false}
use mathlib.Core.Logic.{inl, inr}
use mathlib.Core.List.{List, [], ◌∷◌}
use Prim.Native.Nat.{ℕ, zero, suc, ◌<◌}
use native.Mathlib.Nat.{le_of_suc-le-suc, not-suc-le-zero}
use native.Mathlib.Omega.{arith}
use borrow.Author.Tests.{eq-eqb}
use lib.Dec.{ltb}
use lib.ListN.{length, get_or}
use Rattle.words.proofs.Cases.{both, clash}
use Rattle.words.specs.Lists.{is_empty}
use Rattle.refusals.specs.declared.Refusal.{Refusal}
use Rattle.refusals.specs.declared.Refusal.TheVariants.{NoStrings, LengthsDiffer, NotAscii}
use Rattle.refusals.specs.Result.{first_refused}
use Rattle.umi_column.specs.Verdicts.{verdict_of}
use Rattle.umi_rows.specs.Rows.{is_high}
use Rattle.simple_consensus.specs.Strings.{first_of, columns_of, alike, is_family}
use Rattle.simple_consensus.specs.Verdicts.{family_verdict, consensus_verdict, umis_verdict, call_verdict}
use Rattle.umi_groups.specs.Found.{Found}
use Rattle.simple_umi_laws.specs.Laws.{sound, StringConditions, AnswerRoom}
use Rattle.simple_consensus.proofs.Rows.{columns_length, column_at_lem}
use Rattle.simple_consensus.proofs.Groups.{no_family}
use Rattle.umi_groups.proofs.Room.{room_short, room_enough}

-- ---- columns

first_faulty : (cs : List (List ℕ)) (k : ℕ) (r : Refusal) → k < length cs
    → ((j : ℕ) → j < k → sound (get_or cs j []))
    → verdict_of (get_or cs k []) ≡ Err r
    → first_refused verdict_of cs ≡ Err r
first_faulty [] k r h f e = absurd (not-suc-le-zero h)
first_faulty (c ∷ cs) zero r h f e = rw e
first_faulty (c ∷ cs) (suc k) r h f e = rw (f 0 (omega arith)) (first_faulty cs k r (le_of_suc-le-suc h) (λ j l. f (suc j) (omega arith)) e)

none_faulty : (cs : List (List ℕ)) → ((j : ℕ) → j < length cs → sound (get_or cs j [])) → first_refused verdict_of cs ≡ Ok tt
none_faulty [] f = refl
none_faulty (c ∷ cs) f = rw (f 0 (omega arith)) (none_faulty cs (λ j l. f (suc j) (omega arith)))

-- ---- lists of strings by kind

family_alike : (strings : List (List ℕ)) → is_family strings ≡ true → alike strings ≡ true
unfolding is_family
family_alike strings h = (both (ltb 1 (length strings)) (alike strings) h).1

-- there are some where lengths differ, and in a family
unlike_some : (strings : List (List ℕ)) → alike strings ≡ false → is_empty strings ≡ false
unfolding alike
unlike_some [] h = clash h refl
unlike_some (t ∷ ts) h = refl

family_some : (strings : List (List ℕ)) → is_family strings ≡ true → is_empty strings ≡ false
unfolding is_family
family_some [] h = clash refl h
family_some (t ∷ ts) h = refl

pub one_alike : (t : List ℕ) → alike (t ∷ []) ≡ true
unfolding alike
one_alike t = rw (eq-eqb (length t) (length t) refl)

-- ---- what is refused

module _ (strings : List (List ℕ)) where
  other_sound : is_family strings ≡ false → consensus_verdict strings ≡ Ok tt
  unfolding consensus_verdict
  other_sound h = rw h

  alike_umis : alike strings ≡ true → umis_verdict strings ≡ consensus_verdict strings
  unfolding umis_verdict
  alike_umis h = rw h

  unlike_umis : alike strings ≡ false → umis_verdict strings ≡ Err LengthsDiffer
  unfolding umis_verdict
  unlike_umis h = rw h

  some_call : is_empty strings ≡ false → call_verdict strings ≡ umis_verdict strings
  unfolding call_verdict
  some_call h = rw h

  high_family : is_family strings ≡ true → list_any (list_any is_high) strings ≡ true → consensus_verdict strings ≡ Err NotAscii
  unfolding consensus_verdict family_verdict
  high_family h k = rw (h, k)

  low_family : is_family strings ≡ true → list_any (list_any is_high) strings ≡ false → consensus_verdict strings ≡ first_refused verdict_of (columns_of (length (first_of strings)) strings)
  unfolding consensus_verdict family_verdict
  low_family h k = rw (h, k)

none_verdicts : (call_verdict [] ≡ Err NoStrings) × (umis_verdict [] ≡ Ok tt) × (consensus_verdict [] ≡ Ok tt)
unfolding call_verdict umis_verdict consensus_verdict is_family alike
none_verdicts = (refl, refl, refl)

one_umis : (t : List ℕ) → umis_verdict (t ∷ []) ≡ Ok tt
one_umis t = alike_umis (t ∷ []) (one_alike t) ∙ other_sound (t ∷ []) (no_family (t ∷ []) (inl (omega arith)))

one_call : (t : List ℕ) → call_verdict (t ∷ []) ≡ Ok tt
one_call t = some_call (t ∷ []) refl ∙ one_umis t

pub conditions : (strings : List (List ℕ)) → StringConditions strings
conditions strings = record {
  none = λ e. rw e none_verdicts;
  unequal = λ h.
      (some_call strings (unlike_some strings h) ∙ unlike_umis strings h, unlike_umis strings h, other_sound strings (no_family strings (inr h)));
  single = λ t e. rw e (one_call t);
  family = λ h.
      let a = alike_umis strings (family_alike strings h) in
      (some_call strings (family_some strings h) ∙ a, a);
  high = high_family strings;
  column = λ h n k r l before e.
      let width = length (first_of strings) in
      let columns = columns_of width strings in
      low_family strings h n
      ∙ first_faulty columns k r (rw (columns_length width strings) l)
      (λ j m. rw (column_at_lem width strings j (omega arith)) (before j m)) (rw (column_at_lem width strings k l) e);
  fine = λ h n f.
      let width = length (first_of strings) in
      low_family strings h n
      ∙ none_faulty (columns_of width strings)
      (λ j m. let l : j < width = rw (columns_length width strings) at m in rw (column_at_lem width strings j l) (f j l));
}

pub room : (out : List ℕ) (f : Found) → AnswerRoom out f
room out f = record { short = room_short out f; enough = λ h. room_enough out f (omega arith) }
