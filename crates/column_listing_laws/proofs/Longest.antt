-- No listing is empty, and `longest_listing` bytes hold it, that of a file and of any list of numbers. Assumes nothing.
use Rattle.std.specs.Prelude.{Err, Ok}
use mathlib.Core.Path.{◌≡◌, refl, sym, ◌∙◌, ap, subst}
use mathlib.Core.List.{List, [], ◌∷◌}
use Prim.Native.Nat.{ℕ, zero, suc, ◌+◌, ◌≤◌, ◌<◌}
use native.Mathlib.Omega.{arith}
use lib.Dec.{leb, ltb}
use lib.ListN.{length, take, drop, length-take, length-drop}
use Rattle.words.proofs.Cases.{choice}
use Rattle.refusals.specs.declared.Refusal.{Refusal}
use Rattle.refusals.specs.Result.{Result, and_then, judged, Verdict}
use Rattle.string_set.specs.Readers.{Taken, taken, short, next, byte, front, many, alone, longest_file}
use Rattle.string_set.specs.StringSet.{string, string_set, read_set}
use Rattle.simple_consensus.specs.declared.caller.SimpleConsensusCaller.{SimpleConsensusCaller}
use Rattle.simple_consensus.specs.Strings.{first_of}
use Rattle.simple_consensus.specs.Verdicts.{consensus_verdict}
use Rattle.umi_groups.specs.Found.{Found}
use Rattle.simple_consensus.specs.Consensus.{default_caller, found, consensus_of}
use Rattle.simple_umi_laws.proofs.AnswerLaws.{answered, no_refusal}
use Rattle.column_file.specs.Reading.{File, read_file}
use Rattle.column_file.specs.Places.{head_size, columns_size}
use Rattle.column_file.proofs.Files.{two_each, columns_inside, file_size, strings_there}
use Rattle.judged_file.specs.Judged.{Judged, judge_file}
use Rattle.judged_file.proofs.Judged.{judged_parts}
use Rattle.refusal_text.specs.RefusalText.{refusal_line, printed}
use Rattle.refusal_text.proofs.Lines.{refusal_length, refusal_some}
use Rattle.listing_lines.specs.Lines.{text_of}
use Rattle.column_listing.specs.Listing.{lines_of, listed_file, listing_of}
use Rattle.column_listing.proofs.Lengths.{text_length}
use Rattle.column_listing_laws.specs.Laws.{longest_listing, ListingFits}

-- ---- the first string of a set is no longer than the set

-- a string read off the front of so many bytes
abbrev Within : ℕ → Taken (List ℕ) → Type 0
Within m short = Unit {0}
Within m (taken t r) = length t ≤ m

string_within : (r : List ℕ) → Within (length r) (string r)
unfolding string byte front
string_within [] = tt
string_within (n ∷ r) =
    choice (Within (suc (length r))) (leb n (length r)) (taken (take n r) (drop n r)) short (λ h. rw (length-take n r) (omega arith)) (λ h. tt)

-- and the first of some
abbrev First : ℕ → Taken (List (List ℕ)) → Type 0
First m short = Unit {0}
First m (taken l r) = length (first_of l) ≤ m

first_more : (m : ℕ) (t : List ℕ) (q : Taken (List (List ℕ))) → length t ≤ m → First m (next q (λ l r. taken (t ∷ l) r))
first_more m t short h = tt
first_more m t (taken l r) h = h

first_next : (m n : ℕ) (q : Taken (List ℕ)) → Within m q → First m (next q (λ t s. next (many string n s) (λ l r. taken (t ∷ l) r)))
first_next m n short h = tt
first_next m n (taken t s) h = first_more m t (many string n s) h

first_many : (n : ℕ) (r : List ℕ) → First (length r) (many string n r)
unfolding many
first_many zero r = omega arith
first_many (suc n) r = first_next (length r) n (string r) (string_within r)

weaker : (m : ℕ) (q : Taken (List (List ℕ))) → First m q → First (suc m) q
weaker m short h = tt
weaker m (taken l r) h = omega arith

first_set : (s : List ℕ) → First (length s) (string_set s)
unfolding string_set byte
first_set [] = tt
first_set (n ∷ r) = weaker (length r) (many string n r) (first_many n r)

-- the same of a set's answer
abbrev Read : ℕ → Result (List (List ℕ)) → Type 0
Read m (Err r) = Unit {0}
Read m (Ok l) = length (first_of l) ≤ m

first_alone : (m : ℕ) (q : Taken (List (List ℕ))) → First m q → Read m (alone q)
first_alone m short h = tt
first_alone m (taken l []) h = h
first_alone m (taken l (x ∷ r)) h = tt

first_read : (s : List ℕ) → Read (length s) (read_set s)
unfolding read_set
first_read s = choice (Read (length s)) (ltb longest_file (length s)) _ _ (λ h. tt) (λ h. first_alone (length s) (string_set s) (first_set s))

-- ---- the consensus is as long as the first string

answer_length_lem : (c : SimpleConsensusCaller) (strings : List (List ℕ)) (v : Verdict) (u : Found)
    → judged v (found c strings) ≡ Ok u → length u.text ≡ length (first_of strings)
answer_length_lem c strings (Err r) u e = no_refusal e
answer_length_lem c strings (Ok _) u e =
    let same : found c strings ≡ u = cc in
    ap (λ (x : Found). length x.text) (sym same) ∙ (answered c strings).as_long

-- ---- the text

-- some bytes, and few enough
abbrev Short : List ℕ → Type 0
Short t = (0 < length t) × (length t ≤ longest_listing)

by_refusal : (r : Refusal) → Short (refusal_line r)
by_refusal r = (refusal_some r, omega (arith, refusal_length r))

module _ (s : List ℕ) where
  pub consensus_length : (f : File) (u : Found) → read_file s ≡ Ok f → consensus_of default_caller f.strings ≡ Ok u
      → columns_size f.columns + length u.text ≤ longest_file
  consensus_length f u e k =
      let at = head_size + columns_size f.columns in
      let first : length (first_of f.strings) ≤ length (drop at s) = subst (Read (length (drop at s))) (strings_there s f e) (first_read (drop at s)) in
      omega (
        arith,
        answer_length_lem default_caller f.strings (consensus_verdict f.strings) u k,
        first,
        length-drop at s,
        columns_inside s f e,
        file_size s f e,
      )

  by_judged : (t : Result Judged) → judge_file s ≡ t → Short (printed (and_then t (λ j. Ok (text_of (lines_of j.file j.found)))))
  unfolding lines_of
  by_judged (Err r) e = by_refusal r
  by_judged (Ok j) e =
      let f = j.file in
      let u = j.found in
      let parts = judged_parts s j e in
      (omega arith, omega (arith, text_length s f u parts.0, consensus_length f u parts.0 parts.1, two_each f.columns))

pub fits : (s : List ℕ) → ListingFits s
unfolding listing_of listed_file
fits s =
    let h = by_judged s (judge_file s) refl in
    record { some = h.0; most = h.1 }
