-- A step of writing a column file: what comes of it, and what is refused.
use Rattle.std.specs.Prelude.{ℕ, ◌+◌, not, List, ltb, length, Err, Ok}
use Rattle.std.specs.Prelude.{if◌then◌else◌}
use Rattle.lent_bytes.specs.Buffer.{written_at}
use Rattle.refusals.specs.declared.Refusal.TheVariants.{FileTooLong, NoRoomForPart, OutOfTurn}
use Rattle.refusals.specs.Result.{Result, and_then}
use Rattle.string_set.specs.Readers.{longest_file}
use Rattle.column_writer.specs.declared.stages.Stage.{Stage}
use Rattle.column_writer.specs.declared.stages.Stage.TheVariants.{AwaitsSettings, Finished}
use Rattle.column_writer.specs.declared.stages.PartKind.{PartKind}
use Rattle.column_writer.specs.declared.writer.Writer.{Writer}
use Rattle.column_writer.specs.Stages.{in_turn, awaits_finish, next_stage}

-- before the first step
abbrev pub new_writer : Writer
new_writer = record { stage = AwaitsSettings; written = 0 }

-- 12: the buffer has no room for the part behind the bytes already written; else the writer with these bytes more
unfoldable pub room_for_part : Writer → Stage → List ℕ → List ℕ → Result Writer
room_for_part w next part file =
    if ltb (length file) (w.written + length part) then Err NoRoomForPart
    else Ok (record { stage = next; written = w.written + length part })

-- a part: 13 where it is not its turn; then 1 where the bytes already written and its own pass 65,536; then 2 to 4 of the part; then 12
unfoldable pub put_in : Writer → PartKind → List ℕ → List ℕ → Result Writer
put_in w kind part file =
    if not (in_turn w.stage kind) then Err OutOfTurn
    else if ltb longest_file (w.written + length part) then Err FileTooLong
    else and_then (next_stage w.stage kind part) (λ next. room_for_part w next part file)

-- the finish: 13 where it is not its turn
unfoldable pub finish_of : Writer → Result Writer
finish_of w =
    if not (awaits_finish w.stage) then Err OutOfTurn
    else Ok (record { stage = Finished; written = w.written })

-- ---- what is left afterwards

-- the writer: as it was where the step is refused
abbrev pub writer_after : Writer → Result Writer → Writer
writer_after w (Err r) = w
writer_after w (Ok v) = v

-- the buffer: as it was where the step is refused, and else with the part's bytes behind those already written
abbrev pub file_after : Writer → List ℕ → List ℕ → Result Writer → List ℕ
file_after w part file (Err r) = file
file_after w part file (Ok v) = written_at w.written part file
