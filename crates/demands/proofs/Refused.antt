-- What is refused of bytes, each in turn, and what a refusal leaves: by the definitions. Assumes nothing.
use Rattle.std.specs.Prelude.{Err, Ok}
use mathlib.Core.Path.{◌≡◌}
use mathlib.Core.List.{List}
use Prim.Native.Nat.{ℕ, ◌≤◌, ◌<◌}
use borrow.Author.Tests.{lt-ltb, le-ltb}
use lib.ListN.{length}
use Rattle.refusals.specs.declared.Refusal.{Refusal}
use Rattle.refusals.specs.declared.Refusal.TheVariants.{BufferTooShort}
use Rattle.refusals.specs.Result.{Result, and_then}
use Rattle.string_set.specs.Readers.{longest_file}
use Rattle.string_set.specs.StringSet.{read_set}
use Rattle.simple_consensus.specs.Verdicts.{consensus_verdict}
use Rattle.simple_consensus.specs.Consensus.{default_caller, found}
use Rattle.column_file.specs.Reading.{File, read_file}
use Rattle.judged_file.specs.Judged.{judge_file}
use Rattle.listing_lines.specs.Lines.{text_of}
use Rattle.refusal_text.specs.RefusalText.{printed}
use Rattle.column_listing.specs.Listing.{lines_of, listed_file, listing_of}
use Rattle.column_listing.specs.Answers.{room_for_text, listed_in}
use Rattle.demands.specs.Refused.{SetConditions, InTurn, ListingConditions, Unchanged}

pub set_conditions : (set : List ℕ) → SetConditions set
unfolding read_set
set_conditions set = record {
  too_long = λ h. rw (lt-ltb longest_file (length set) h);
  cut_off = λ h e. rw (le-ltb longest_file (length set) h, e);
  accepted_else = λ h l e. rw (le-ltb longest_file (length set) h, e);
}

-- of any way of judging, and of a room that is asked last
pub in_turn_lem : {A : Type 0} (judge : List (List ℕ) → Result A) (text : A → List ℕ) (set out : List ℕ) (room : A → Result A)
    → ((a : A) → length out < length (text a) → room a ≡ Err BufferTooShort)
    → ((a : A) → length (text a) ≤ length out → room a ≡ Ok a)
    → InTurn judge text set out (and_then (and_then (read_set set) judge) room)
in_turn_lem judge text set out room short enough = record {
  by_bytes = λ r e. rw e;
  by_strings = λ l r e j. rw (e, j);
  by_room = λ l a e j h. rw (e, j) (short a h);
  accepted_else = λ l a e j h. rw (e, j) (enough a h);
}

-- ---- a listing

module _ (s : List ℕ) where
  listed_refused : (r : Refusal) → read_file s ≡ Err r → listed_file s ≡ Err r
  unfolding listed_file judge_file
  listed_refused r e = rw e

  strings_refused : (f : File) (r : Refusal) → read_file s ≡ Ok f → consensus_verdict f.strings ≡ Err r → listed_file s ≡ Err r
  unfolding listed_file judge_file
  strings_refused f r e v = rw (e, v)

  listed_text : (f : File) → read_file s ≡ Ok f → consensus_verdict f.strings ≡ Ok tt
      → listed_file s ≡ Ok (text_of (lines_of f (found default_caller f.strings)))
  unfolding listed_file judge_file
  listed_text f e v = rw (e, v)

-- a text and the room for it
room_last : (out : List ℕ) (q : Result (List ℕ)) (t : List ℕ) → q ≡ Ok t
    → (length out < length (printed q) → and_then q (room_for_text out) ≡ Err BufferTooShort)
    × (length (printed q) ≤ length out → and_then q (room_for_text out) ≡ Ok (printed q))
unfolding room_for_text
room_last out q t e = rw e ((λ h. rw (lt-ltb (length out) (length t) h)), (λ h. rw (le-ltb (length out) (length t) h)))

pub listing_conditions : (s out : List ℕ) → ListingConditions s out
unfolding listed_in listing_of
listing_conditions s out = record {
  by_file = λ r e. rw (listed_refused s r e);
  by_strings = λ f r e v. rw (strings_refused s f r e v);
  by_room = λ f e v h. (room_last out (listed_file s) _ (listed_text s f e v)).0 h;
  accepted_else = λ f e v h. (room_last out (listed_file s) _ (listed_text s f e v)).1 h;
}

-- ---- what a refusal leaves

pub unchanged : (r : Refusal) → Unchanged r
unchanged r = record {
  caller = λ c said e. rw e;
  buffer = λ out said e. rw e;
  listing_buffer_lem = λ out said e. rw e;
  writer = λ w said e. rw e;
  file = λ w part file said e. rw e;
  places = λ ps said e. rw e;
}
