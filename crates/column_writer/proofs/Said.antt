-- What comes of a part, by what its tests find. Assumes nothing.
use Rattle.std.specs.Prelude.{Err, Ok}
use mathlib.Core.Path.{◌≡◌, refl}
use mathlib.Core.Bool.{true, false}
use mathlib.Core.List.{List}
use Prim.Native.Nat.{ℕ, ◌+◌, ◌≤◌, ◌<◌}
use borrow.Author.Tests.{lt-ltb, le-ltb}
use lib.ListN.{length}
use Rattle.refusals.specs.declared.Refusal.{Refusal}
use Rattle.refusals.specs.declared.Refusal.TheVariants.{FileTooLong, NoRoomForPart, OutOfTurn}
use Rattle.std.specs.Result.{result_unwrap_or}
use Rattle.refusals.specs.Refusals.{number_in}
use Rattle.refusals.specs.Result.{Result}
use Rattle.string_set.specs.Readers.{longest_file}
use Rattle.column_writer.specs.declared.stages.Stage.{Stage}
use Rattle.column_writer.specs.declared.stages.PartKind.{PartKind}
use Rattle.column_writer.specs.declared.writer.Writer.{Writer}
use Rattle.column_writer.specs.Stages.{in_turn, next_stage}
use Rattle.column_writer.specs.Writing.{room_for_part, put_in, writer_after, file_after}

-- the writer that the caller then has: his own where a step is refused
pub kept_writer : (w : Writer) (r : Result Writer) → result_unwrap_or r w ≡ writer_after w r
kept_writer w (Err r) = refl
kept_writer w (Ok v) = refl

module _ (w : Writer) (kind : PartKind) (part file : List ℕ) where
  -- what is said of a step that comes to q, with the buffer afterwards
  pub said : (q r : Result Writer) (after : List ℕ) → put_in w kind part file ≡ q → r ≡ q → after ≡ file_after w part file q
      → record {
        step : r ≡ put_in w kind part file;
        writer : result_unwrap_or r w ≡ writer_after w (put_in w kind part file);
        lent : after ≡ file_after w part file (put_in w kind part file);
        number : number_in r ≡ number_in (put_in w kind part file);
      }
  said q r after e s f = rw e (record { step = s; writer = rw s (kept_writer w q); lent = f; number = rw s refl })

  pub not_in_turn : in_turn w.stage kind ≡ false → put_in w kind part file ≡ Err OutOfTurn
  unfolding put_in
  not_in_turn t = rw t

  module _ (turn : in_turn w.stage kind ≡ true) where
    pub is_too_long : longest_file < w.written + length part → put_in w kind part file ≡ Err FileTooLong
    unfolding put_in
    is_too_long l = rw (turn, lt-ltb longest_file (w.written + length part) l)

    module _ (short : w.written + length part ≤ longest_file) where
      pub part_refused : (r : Refusal) → next_stage w.stage kind part ≡ Err r → put_in w kind part file ≡ Err r
      unfolding put_in
      part_refused r n = rw (turn, le-ltb longest_file (w.written + length part) short, n)

      module _ (stage : Stage) (n : next_stage w.stage kind part ≡ Ok stage) where
        pub no_room : length file < w.written + length part → put_in w kind part file ≡ Err NoRoomForPart
        unfolding put_in room_for_part
        no_room l = rw (turn, le-ltb longest_file (w.written + length part) short, n, lt-ltb (length file) (w.written + length part) l)

        pub part_put : w.written + length part ≤ length file → put_in w kind part file ≡ Ok (record { stage = stage; written = w.written + length part })
        unfolding put_in room_for_part
        part_put l = rw (turn, le-ltb longest_file (w.written + length part) short, n, le-ltb (length file) (w.written + length part) l)
