-- What an answer says of the result that it was made of. Assumes nothing.
use Rattle.std.specs.Prelude.{Err, Ok}
use mathlib.Core.Path.{◌≡◌, refl, sym, ◌∙◌, ap, subst}
use mathlib.Core.List.{List}
use Prim.Native.Nat.{ℕ, ◌≤◌}
use lib.ListN.{length, take, drop, replicate}
use Rattle.lent_bytes.specs.Buffer.{written}
use Rattle.lent_bytes.proofs.Buffer.{written_front}
use Rattle.refusals.specs.declared.Refusal.{Refusal}
use Rattle.refusals.specs.Result.{Result, and_then, map_ok}
use Rattle.string_set.specs.StringSet.{read_set}
use Rattle.umi_groups.specs.Found.{Found, buffer_after}
use Rattle.simple_consensus.specs.declared.caller.SimpleConsensusCaller.{SimpleConsensusCaller}
use Rattle.simple_consensus.specs.Consensus.{default_caller, consensus_of}
use Rattle.simple_umi.specs.Answers.{consensus_in}
use Rattle.column_file.specs.Reading.{File, read_file}
use Rattle.column_file.specs.declared.file.Places.{Places}
use Rattle.column_file.proofs.Files.{strings_read}
use Rattle.column_file.proofs.Readings.{FileAt}
use Rattle.judged_file.specs.Judged.{Judged, judge_file, judged_as}

-- a value that was accepted, of which f made b
pub record AcceptedAs {A B : Type 0} (f : A → B) (t : Result A) (b : B) : Type 0 where
  pub value : A
  pub is : t ≡ Ok value
  pub gives : b ≡ f value

module _ {A B : Type 0} (f : A → B) (t : Result A) where
  abbrev Said : Result B → Type 0
  Said (Err r) = t ≡ Err r
  Said (Ok b) = AcceptedAs f t b

said : {A B : Type 0} (f : A → B) (t : Result A) → Said f t (map_ok f t)
said f (Err r) = refl
said f (Ok a) = record { value = a; is = refl; gives = refl }

module _ {A B : Type 0} (f : A → B) (t : Result A) (g : Result B) (e : g ≡ map_ok f t) where
  pub said_refused : (r : Refusal) → g ≡ Err r → t ≡ Err r
  said_refused r h = subst (Said f t) (sym e ∙ h) (said f t)

  pub said_accepted : (b : B) → g ≡ Ok b → AcceptedAs f t b
  said_accepted b h = subst (Said f t) (sym e ∙ h) (said f t)

-- ---- a file that is accepted

-- by its bytes, and then by its strings
abbrev Parts : List ℕ → Result Judged → Type 0
Parts s (Err r) = Unit {0}
Parts s (Ok j) = (read_file s ≡ Ok j.file) × (consensus_of default_caller j.file.strings ≡ Ok j.found)

by_strings : (s : List ℕ) (f : File) → read_file s ≡ Ok f → (t : Result Found) → consensus_of default_caller f.strings ≡ t
    → Parts s (and_then t (λ u. Ok (record { file = f; found = u })))
by_strings s f e (Err r) k = tt
by_strings s f e (Ok u) k = (e, k)

by_file : (s : List ℕ) (t : Result File) → read_file s ≡ t
    → Parts s (and_then t (λ f. and_then (consensus_of default_caller f.strings) (λ u. Ok (record { file = f; found = u }))))
by_file s (Err r) e = tt
by_file s (Ok f) e = by_strings s f e (consensus_of default_caller f.strings) refl

pub judged_parts : (s : List ℕ) (j : Judged) → judge_file s ≡ Ok j → (read_file s ≡ Ok j.file) × (consensus_of default_caller j.file.strings ≡ Ok j.found)
unfolding judge_file
judged_parts s j e = subst (Parts s) e (by_file s (read_file s) refl)

-- its places
abbrev pub judged_at : (s : List ℕ) (j : Judged) → judge_file s ≡ Ok j → FileAt (read_file s) (judged_as j).places
judged_at s j e = record { file = j.file; is = (judged_parts s j e).0; places = refl }

-- and the consensus in its text
pub consensus_there : (j : Judged) → length j.found.text ≤ 255 → take (judged_as j).length (judged_as j).text ≡ j.found.text
consensus_there j h = written_front j.found.text (replicate 255 0) h

-- ---- what makes it so

pub file_refused : (s : List ℕ) (r : Refusal) → read_file s ≡ Err r → judge_file s ≡ Err r
unfolding judge_file
file_refused s r e = rw e

-- by what the caller of a file's strings answers, with a buffer of 255 bytes and at the defaults
module _ (s : List ℕ) (p : Places) (a : FileAt (read_file s) p) (set : List ℕ) (c : SimpleConsensusCaller) (k : set ≡ drop p.strings s) (e : c ≡ default_caller)
    (h : consensus_in c set (replicate 255 0) ≡ and_then (read_set set) (consensus_of c)) where
  consensus_said : consensus_in c set (replicate 255 0) ≡ consensus_of default_caller a.file.strings
  consensus_said = h ∙ rw (k, strings_read s p a, e)

  -- refused
  pub strings_refused : (r : Refusal) → consensus_in c set (replicate 255 0) ≡ Err r → judge_file s ≡ Err r
  unfolding judge_file
  strings_refused r i = rw (a.is, sym consensus_said ∙ i)

  -- found
  pub strings_found : (o : List ℕ) (u : Found) → consensus_in c set (replicate 255 0) ≡ Ok u → o ≡ buffer_after (replicate 255 0) (consensus_in c set (replicate 255 0))
      → Ok (record { places = p; text = o; length = length u.text; had_errors = u.had_errors }) ≡ map_ok judged_as (judge_file s)
  unfolding judge_file
  strings_found o u i lent =
      let text : o ≡ written u.text (replicate 255 0) = lent ∙ ap (buffer_after (replicate 255 0)) i in
      rw (a.is, sym consensus_said ∙ i, text, a.places)
