-- Steps of writing, one after another, each with the writer and the buffer as the one before left them.
use Rattle.std.specs.Prelude.{ℕ, List, [], ◌∷◌, ◌++◌, map, length, Err, Ok}
use Rattle.refusals.specs.Result.{Result}
use Rattle.column_file.specs.Format.{Observation}
use Rattle.column_file.specs.Reading.{File}
use Rattle.column_file.specs.Encoding.{announced_bytes, column_bytes, string_set_bytes}
use Rattle.column_writer.specs.declared.writer.Writer.{Writer}
use Rattle.column_writer.specs.declared.stages.PartKind.{PartKind}
use Rattle.column_writer.specs.declared.stages.PartKind.TheVariants.{Settings as settings, Column as column, Strings as strings}
use Rattle.column_writer.specs.Writing.{new_writer, put_in, finish_of, writer_after, file_after}

-- a step: a part in its file form, or the finish
pub data Step : Type 0 where
  put : PartKind → List ℕ → Step
  finish : Step

-- the bytes that are lent for it
abbrev pub part_of : Step → List ℕ
part_of (put kind part) = part
part_of finish = []

-- a file that is being written: the writer, and the whole buffer
pub record Draft : Type 0 where
  pub writer : Writer
  pub file : List ℕ

-- a new writer, and a buffer that holds anything
abbrev pub new_draft : List ℕ → Draft
new_draft out = record { writer = new_writer; file = out }

-- what comes of a step
abbrev pub said_of : Step → Draft → Result Writer
said_of (put kind part) d = put_in d.writer kind part d.file
said_of finish d = finish_of d.writer

-- the draft after a step
abbrev pub after_step : Step → Draft → Draft
after_step e d = record { writer = writer_after d.writer (said_of e d); file = file_after d.writer (part_of e) d.file (said_of e d) }

-- after a list of steps
abbrev pub after_steps : List Step → Draft → Draft
after_steps [] d = d
after_steps (e ∷ es) d = after_steps es (after_step e d)

-- from a new writer on
abbrev pub draft_after : List Step → List ℕ → Draft
draft_after es out = after_steps es (new_draft out)

-- a step before others, if it is accepted
abbrev pub kept_by : Step → Result Writer → List Step → List Step
kept_by e (Err r) es = es
kept_by e (Ok w) es = e ∷ es

-- those of the steps that are accepted, in their order
abbrev pub kept : List Step → Draft → List Step
kept [] d = []
kept (e ∷ es) d = kept_by e (said_of e d) (kept es (after_step e d))

-- the step that writes a column
abbrev pub column_step : List Observation → Step
column_step c = put column (column_bytes c)

-- the steps that write what a file says: its settings with the number of its columns, each column, its strings, the finish
abbrev pub file_steps : File → List Step
file_steps f =
    put settings (announced_bytes f.settings (length f.columns))
    ∷ (map column_step f.columns ++ (put strings (string_set_bytes f.strings) ∷ finish ∷ []))
