-- By what bytes are refused, in turn, and what a refusal leaves.
use Rattle.std.specs.Prelude.{◌≡◌, List, [], ℕ, ◌≤◌, ◌<◌, length, Err, Ok}
use Rattle.refusals.specs.declared.Refusal.{Refusal}
use Rattle.refusals.specs.declared.Refusal.TheVariants.{CutOff, BufferTooShort}
use Rattle.refusals.specs.Refusals.{number_in}
use Rattle.refusals.specs.Result.{Result}
use Rattle.string_set.specs.Readers.{alone, longest_file}
use Rattle.string_set.specs.StringSet.{string_set, read_set}
use Rattle.string_set.specs.Places.{places_after}
use Rattle.simple_consensus.specs.declared.caller.SimpleConsensusCaller.{SimpleConsensusCaller}
use Rattle.simple_consensus.specs.Verdicts.{consensus_verdict}
use Rattle.umi_groups.specs.Found.{Found}
use Rattle.umi_groups.specs.Found.{buffer_after}
use Rattle.simple_consensus.specs.Answers.{caller_after}
use Rattle.column_file.specs.Reading.{File, read_file}
use Rattle.column_writer.specs.declared.writer.Writer.{Writer}
use Rattle.column_writer.specs.Writing.{writer_after, file_after}
use Rattle.column_listing.specs.Listing.{listing_of}
use Rattle.column_listing.specs.Answers.{listed_in, listing_buffer}

-- the bytes of a string set
pub record SetConditions (set : List ℕ) : Type 0 where
  -- 1: over 65,536 bytes
  pub too_long : longest_file < length set → number_in (read_set set) ≡ 1
  -- 2: else, where they are no set up to the last
  pub cut_off : length set ≤ longest_file → alone (string_set set) ≡ Err CutOff → number_in (read_set set) ≡ 2
  -- and none else
  pub accepted_else : length set ≤ longest_file → (l : List (List ℕ)) → alone (string_set set) ≡ Ok l → read_set set ≡ Ok l

-- a function on a set's bytes: judge is what it says of strings, text the answer's string, and said what it says of the bytes and a buffer
pub record InTurn {A : Type 0} (judge : List (List ℕ) → Result A) (text : A → List ℕ) (set out : List ℕ) (said : Result A) : Type 0 where
  -- the bytes decide first, by 1 and 2
  pub by_bytes : (r : Refusal) → read_set set ≡ Err r → said ≡ Err r
  -- else their strings
  pub by_strings : (l : List (List ℕ)) (r : Refusal) → read_set set ≡ Ok l → judge l ≡ Err r → said ≡ Err r
  -- 10: else, where the buffer is shorter than the answer
  pub by_room : (l : List (List ℕ)) (a : A) → read_set set ≡ Ok l → judge l ≡ Ok a → length out < length (text a) → said ≡ Err BufferTooShort
  -- and nothing else
  pub accepted_else : (l : List (List ℕ)) (a : A) → read_set set ≡ Ok l → judge l ≡ Ok a → length (text a) ≤ length out → said ≡ Ok a

-- the listing of a file's bytes into a buffer
pub record ListingConditions (s out : List ℕ) : Type 0 where
  -- the file decides first, by 1 to 4
  pub by_file : (r : Refusal) → read_file s ≡ Err r → listed_in s out ≡ Err r
  -- else its strings, as `consensus` refuses them, by 7 to 9
  pub by_strings : (f : File) (r : Refusal) → read_file s ≡ Ok f → consensus_verdict f.strings ≡ Err r → listed_in s out ≡ Err r
  -- 10: else, where the buffer is shorter than the listing
  pub by_room : (f : File) → read_file s ≡ Ok f → consensus_verdict f.strings ≡ Ok tt
      → length out < length (listing_of s) → listed_in s out ≡ Err BufferTooShort
  -- and nothing else
  pub accepted_else : (f : File) → read_file s ≡ Ok f → consensus_verdict f.strings ≡ Ok tt
      → length (listing_of s) ≤ length out → listed_in s out ≡ Ok (listing_of s)

-- a refusal leaves everything borrowed as it was
pub record Unchanged (r : Refusal) : Type 0 where
  -- the caller with its builder, and the buffer for its answer
  pub caller : (c : SimpleConsensusCaller) (said : Result Found) → said ≡ Err r → caller_after c said ≡ c
  pub buffer : (out : List ℕ) (said : Result Found) → said ≡ Err r → buffer_after out said ≡ out
  -- the buffer for a listing
  pub listing_buffer_lem : (out : List ℕ) (said : Result (List ℕ)) → said ≡ Err r → listing_buffer out said ≡ out
  -- a writer, and the buffer of its file
  pub writer : (w : Writer) (said : Result Writer) → said ≡ Err r → writer_after w said ≡ w
  pub file : (w : Writer) (part file : List ℕ) (said : Result Writer) → said ≡ Err r → file_after w part file said ≡ file
  -- the places of a set's strings
  pub places : (ps : List ℕ) (said : Result (List (List ℕ))) → said ≡ Err r → places_after said ps ≡ ps
