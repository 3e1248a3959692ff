-- The steps of writing by a writer's number: the reply in one number, and the buffer afterwards.
use Rattle.std.specs.Prelude.{ℕ, List, Err, Ok}
use Rattle.refusals.specs.Refusals.{number_of}
use Rattle.refusals.specs.Result.{Result, and_then}
use Rattle.column_writer.specs.declared.writer.Writer.{Writer}
use Rattle.column_writer.specs.declared.stages.PartKind.{PartKind}
use Rattle.column_writer.specs.Writing.{put_in, finish_of, file_after}
use Rattle.export_writer.specs.Numbers.{writer_number, writer_of}

-- the number of a refusal, or that of the writer afterwards
abbrev pub reply_of : Result Writer → ℕ
reply_of (Err r) = number_of r
reply_of (Ok w) = writer_number w

-- a part for the writer of a number
unfoldable pub write_in : ℕ → PartKind → List ℕ → List ℕ → Result Writer
write_in n kind part file = and_then (writer_of n) (λ w. put_in w kind part file)

-- the finish
unfoldable pub finish_in : ℕ → Result Writer
finish_in n = and_then (writer_of n) finish_of

-- the buffer afterwards: as the writer leaves it, and as it was where there is none
abbrev pub file_of_writer : Result Writer → PartKind → List ℕ → List ℕ → List ℕ
file_of_writer (Err r) kind part file = file
file_of_writer (Ok w) kind part file = file_after w part file (put_in w kind part file)

-- by the writer's number
unfoldable pub file_by : ℕ → PartKind → List ℕ → List ℕ → List ℕ
file_by n kind part file = file_of_writer (writer_of n) kind part file

-- how many bytes are written, 0 where there is no writer
abbrev pub written_of_writer : Result Writer → ℕ
written_of_writer (Err r) = 0
written_of_writer (Ok w) = w.written

-- by the writer's number
unfoldable pub written_by : ℕ → ℕ
written_by n = written_of_writer (writer_of n)
