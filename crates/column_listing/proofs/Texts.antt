-- The text of a judged file, by the places of its parts, and the replies to it. Assumes nothing.
use Rattle.std.specs.Prelude.{Option, Err, Ok, IfOk}
use mathlib.Core.Path.{◌≡◌, refl, sym, ◌∙◌, ap}
use mathlib.Core.List.{List, [], ◌∷◌}
use Prim.Native.Nat.{ℕ, ◌+◌, ◌*◌, ◌≤◌, ◌<◌}
use native.Mathlib.Omega.{arith}
use borrow.Author.Tests.{le-ltb, lt-ltb, leb-true, leb-false, ltb-true}
use Rattle.std.specs.Option.{ok_or}
use lib.Dec.{leb, ltb}
use lib.ListN.{length, take}
use Rattle.words.proofs.Cases.{test}
use Rattle.lent_bytes.specs.Buffer.{written, written_length}
use Rattle.lent_bytes.proofs.Buffer.{short_written}
use Rattle.refusals.specs.declared.Refusal.{Refusal}
use Rattle.refusals.specs.declared.Refusal.TheVariants.{BufferTooShort}
use Rattle.refusal_text.specs.RefusalText.{refusal_line}
use Rattle.column_file.specs.Format.{Observation}
use Rattle.column_file.specs.Reading.{File, read_file}
use Rattle.column_calls.specs.declared.columns.ColumnCall.{ColumnCall}
use Rattle.column_calls.specs.Columns.{called_column}
use Rattle.refusals.specs.Result.{Result, map_ok}
use Rattle.string_set.specs.Readers.{longest_file}
use Rattle.column_file.specs.declared.settings.Settings.{Settings}
use Rattle.column_file.specs.Places.{columns_at}
use Rattle.column_file.proofs.Files.{few_columns}
use Rattle.column_file.proofs.Readings.{columns_read}
use Rattle.judged_file.specs.declared.JudgedFile.{JudgedFile}
use Rattle.judged_file.specs.Judged.{Judged, judge_file, judged_as}
use Rattle.judged_file.proofs.Judged.{AcceptedAs, said_accepted, judged_parts, judged_at, consensus_there}
use Rattle.umi_groups.specs.Found.{Found}
use Rattle.listing_lines.specs.Lines.{column_line, column_lines, text_of}
use Rattle.listing_lines.specs.Tables.{lines_with, text_with}
use Rattle.column_listing.specs.Listing.{lines_of, listed_file, listing_of}
use Rattle.column_listing.specs.Answers.{room_for_text, listed_in, listing_buffer}
use Rattle.column_listing.proofs.Lengths.{lines_parts, text_length}

-- a file's text is t, of n columns
pub record TextOf (s t : List ℕ) (n : ℕ) : Type 0 where
  pub is : listed_file s ≡ Ok t
  pub few : n < longest_file
  pub most : length t ≤ 300 + 70 * n

-- the lines by what is called of each column at the settings
pub lines_with_lem : (g : Settings) (i : ℕ) (cs : List (List Observation)) → lines_with (called_column g) i cs ≡ column_lines i g cs
unfolding lines_with column_lines column_line called_column
lines_with_lem g i [] = refl
lines_with_lem g i (c ∷ cs) = rw (lines_with_lem g (i + 1) cs)

pub text_is : (f : File) (u : Found) → text_with (called_column f.settings) f.columns u.text u.had_errors ≡ text_of (lines_of f u)
unfolding text_with
text_is f u = rw (lines_with_lem f.settings 1 f.columns) (sym (lines_parts f u))

-- of a file that is judged
judged_text : (s : List ℕ) (j : Judged) → judge_file s ≡ Ok j → length j.found.text ≤ 255
    → let p = judged_as j in
    TextOf s (text_with (called_column p.places.settings) (columns_at s p.places.columns p.places.count) (take p.length p.text) p.had_errors) p.places.count
unfolding listed_file
judged_text s j e short =
    let p = judged_as j in
    let at = judged_at s j e in
    let is : text_with (called_column p.places.settings) (columns_at s p.places.columns p.places.count) (take p.length p.text) p.had_errors ≡ text_of (lines_of j.file j.found) =
    rw (columns_read s p.places at, consensus_there j short) (text_is j.file j.found) in
    record {
      is = rw (e, is);
      few = omega (arith, few_columns s p.places at);
      most = rw is (omega (arith, short, text_length s j.file j.found (judged_parts s j e).0));
    }

-- as what is printed from says it
pub text_said : (s : List ℕ) (q : Result JudgedFile) → q ≡ map_ok judged_as (judge_file s) → IfOk q (λ p. p.length ≤ 255) → (p : JudgedFile) → q ≡ Ok p
    → (called : List Observation → ColumnCall) (text : List ℕ) → called ≡ called_column p.places.settings → text ≡ take p.length p.text
    → TextOf s (text_with called (columns_at s p.places.columns p.places.count) text p.had_errors) p.places.count
text_said s q e short p k called text settings t =
    let a = said_accepted judged_as (judge_file s) q e p k in
    let h : p.length ≤ 255 = rw k at short in
    rw (settings, t, a.gives) (judged_text s a.value a.is (rw a.gives at h))

-- a text that does not fit is not written
pub room_buffer : (t out : List ℕ) → listing_buffer out (room_for_text out t) ≡ written t out
unfolding room_for_text
room_buffer t out = test (ltb (length out) (length t)) (λ e. rw e (short_written t out (ltb-true (length out) (length t) e))) (λ e. rw e)

-- what is replied of one that fits, and of one that does not
pub room_reply : (t out : List ℕ) → ok_or (written_length t out) BufferTooShort ≡ map_ok length (room_for_text out t)
unfolding room_for_text written_length
room_reply t out =
    test (leb (length t) (length out))
    (λ e. rw (e, le-ltb (length out) (length t) (leb-true (length t) (length out) e)))
    (λ e. rw (e, lt-ltb (length out) (length t) (leb-false (length t) (length out) e)))

-- what was written of an accepted file, as both functions reply
module _ (s out mid : List ℕ) (q : Result (Option ℕ)) (e : q ≡ map_ok (λ t. written_length t out) (listed_file s)) (n : Option ℕ) (k : q ≡ Ok n) where
  written_of : AcceptedAs (λ t. written_length t out) (listed_file s) n
  written_of = said_accepted (λ t. written_length t out) (listed_file s) q e n k

  pub list_reply : ok_or n BufferTooShort ≡ map_ok length (listed_in s out)
  unfolding listed_in
  list_reply = ap (λ (m : Option ℕ). ok_or m BufferTooShort) written_of.gives ∙ room_reply written_of.value out ∙ rw written_of.is

  pub print_reply : n ≡ written_length (listing_of s) out
  unfolding listing_of
  print_reply = written_of.gives ∙ rw written_of.is

  pub print_buffer : mid ≡ listing_buffer out (listed_in s out) → mid ≡ written (listing_of s) out
  unfolding listed_in listing_of
  print_buffer h = h ∙ rw written_of.is (room_buffer written_of.value out)

-- of a file that is refused when it is read
pub refused_listing : (s : List ℕ) (r : Refusal) → read_file s ≡ Err r → listing_of s ≡ refusal_line r
unfolding listing_of listed_file judge_file
refused_listing s r e = rw e
