-- The number of an answer; its length is far below 64 bits. Assumes nothing.
use Rattle.std.specs.Prelude.{Err, Ok, IfOk}
use mathlib.Core.Path.{◌≡◌, refl}
use mathlib.Core.List.{List}
use Prim.Native.Nat.{ℕ, ◌≤◌}
use native.Mathlib.Omega.{arith}
use lib.Dec.{ltb}
use lib.ListN.{length}
use Rattle.words.proofs.Cases.{choice}
use Rattle.refusals.specs.declared.Refusal.TheVariants.{BufferTooShort}
use Rattle.refusals.specs.Result.{Result, and_then, map_ok}
use Rattle.column_file.specs.Reading.{File, read_file}
use Rattle.column_file.proofs.Files.{two_each, columns_inside, file_size}
use Rattle.judged_file.specs.Judged.{Judged, judge_file}
use Rattle.judged_file.proofs.Judged.{judged_parts}
use Rattle.column_calls.specs.Columns.{called_column}
use Rattle.refusal_text.specs.RefusalText.{printed}
use Rattle.column_listing.specs.Listing.{listed_file, listing_of}
use Rattle.column_listing.specs.Answers.{room_for_text, listed_in}
use Rattle.column_listing_laws.proofs.Longest.{fits}
use Rattle.column_records.specs.Records.{records_with, records_of, records_in}
use Rattle.column_records.proofs.RecordLaws.{records_length}
use Rattle.export_listing.specs.Reply.{listing_reply, length_reply}

-- the reply of a length is that of what has it
pub reply_is : (t : Result (List ℕ)) → length_reply (map_ok length t) ≡ listing_reply t
reply_is (Err r) = refl
reply_is (Ok t) = refl

-- ---- lengths

-- of what is to be written
abbrev Few : Result (List ℕ) → Type 0
Few (Err r) = Unit {0}
Few (Ok t) = length t ≤ 2400000

-- of an answer
abbrev Short : Result ℕ → Type 0
Short q = IfOk q (λ n. n ≤ 2400000)

in_room : (out : List ℕ) (t : Result (List ℕ)) → Few t → Short (map_ok length (and_then t (room_for_text out)))
unfolding room_for_text
in_room out (Err r) h = tt
in_room out (Ok t) h =
    choice (λ (u : Result (List ℕ)). Short (map_ok length u)) (ltb (length out) (length t)) (Err BufferTooShort) (Ok t) (λ e. tt) (λ e. h)

-- of a listing
printed_few : (t : Result (List ℕ)) → length (printed t) ≤ 2400000 → Few t
printed_few (Err r) h = tt
printed_few (Ok t) h = h

pub listing_short : (s out : List ℕ) → Short (map_ok length (listed_in s out))
unfolding listed_in listing_of
listing_short s out = in_room out (listed_file s) (printed_few (listed_file s) (fits s).most)

-- of records: 28 bytes for each column, which takes at least two of 65,536
records_few : (s : List ℕ) (f : File) → read_file s ≡ Ok f → length (records_with (called_column f.settings) f.columns) ≤ 2400000
records_few s f e =
    omega (arith, records_length (called_column f.settings) f.columns, two_each f.columns, columns_inside s f e, file_size s f e)

by_judged : (s : List ℕ) (v : Result Judged) → judge_file s ≡ v → Few (and_then v (λ j. Ok (records_with (called_column j.file.settings) j.file.columns)))
by_judged s (Err r) e = tt
by_judged s (Ok j) e = records_few s j.file (judged_parts s j e).0

pub records_short : (s out : List ℕ) → Short (map_ok length (records_in s out))
unfolding records_in records_of
records_short s out = in_room out (records_of s) (by_judged s (judge_file s) refl)
