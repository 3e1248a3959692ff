-- What is replied and left in the buffer, by the room and by what the file says. Assumes nothing.
use Rattle.std.specs.Prelude.{Err, Ok}
use mathlib.Core.Path.{◌≡◌}
use mathlib.Core.List.{List}
use Prim.Native.Nat.{ℕ, ◌*◌, ◌≤◌, ◌<◌}
use native.Mathlib.Omega.{arith}
use borrow.Author.Tests.{le-ltb, lt-ltb}
use lib.ListN.{length}
use Rattle.refusals.specs.declared.Refusal.TheVariants.{BufferTooShort}
use Rattle.refusals.specs.Result.{Result, map_ok}
use Rattle.string_set.specs.Readers.{longest_file}
use Rattle.column_file.specs.Places.{columns_at}
use Rattle.column_file.proofs.Files.{few_columns}
use Rattle.column_file.proofs.Readings.{columns_read}
use Rattle.column_calls.specs.Columns.{called_column}
use Rattle.judged_file.specs.declared.JudgedFile.{JudgedFile}
use Rattle.judged_file.specs.Judged.{Judged, judge_file, judged_as}
use Rattle.judged_file.proofs.Judged.{said_accepted, judged_at}
use Rattle.column_listing.specs.Answers.{room_for_text}
use Rattle.column_records.specs.Records.{records_with, records_of, records_in}
use Rattle.column_records.proofs.RecordLaws.{records_length}

-- the records of a judged file
abbrev pub records_at : List ℕ → JudgedFile → List ℕ
records_at s p = records_with (called_column p.places.settings) (columns_at s p.places.columns p.places.count)

-- they are its records, 28 bytes for each column
pub record RecordsOf (s : List ℕ) (p : JudgedFile) : Type 0 where
  pub is : records_of s ≡ Ok (records_at s p)
  pub size : length (records_at s p) ≡ 28 * p.places.count
  pub few : p.places.count < longest_file

judged_records : (s : List ℕ) (j : Judged) → judge_file s ≡ Ok j → RecordsOf s (judged_as j)
unfolding records_of
judged_records s j e =
    let p = judged_as j in
    let at = judged_at s j e in
    let columns = columns_read s p.places at in
    record {
      is = rw (e, columns);
      size = rw columns (records_length (called_column j.file.settings) j.file.columns);
      few = omega (arith, few_columns s p.places at);
    }

pub records_said : (s : List ℕ) (q : Result JudgedFile) → q ≡ map_ok judged_as (judge_file s) → (p : JudgedFile) → q ≡ Ok p → RecordsOf s p
records_said s q e p k =
    let a = said_accepted judged_as (judge_file s) q e p k in
    rw a.gives (judged_records s a.value a.is)

-- ---- with a buffer

module _ (s out t : List ℕ) (e : records_of s ≡ Ok t) where
  -- too short
  pub no_room : length out < length t → records_in s out ≡ Err BufferTooShort
  unfolding records_in room_for_text
  no_room h = rw (e, lt-ltb (length out) (length t) h)

  -- long enough
  pub all_put : length t ≤ length out → records_in s out ≡ Ok t
  unfolding records_in room_for_text
  all_put h = rw (e, le-ltb (length out) (length t) h)
