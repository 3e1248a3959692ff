-- What is numbered is read back, and steps by numbers are the steps.
use Rattle.std.specs.Prelude.{◌≡◌, true, List, [], ◌∷◌, ℕ, ◌≤◌, ◌<◌, ltb, Ok}
use Rattle.std.specs.Prelude.{if◌then◌else◌}
use Rattle.string_set.specs.Readers.{longest_file}
use Rattle.column_writer.specs.declared.stages.Stage.{Stage}
use Rattle.column_writer.specs.declared.stages.Stage.TheVariants.{AwaitsSettings, AwaitsColumns, AwaitsFinish, Finished}
use Rattle.column_writer.specs.declared.writer.Writer.{Writer}
use Rattle.column_writer.specs.Writing.{new_writer}
use Rattle.column_writer_laws.specs.Steps.{Step, put, finish, Draft, draft_after}
use Rattle.column_writer_laws.specs.Laws.{are_bytes}
use Rattle.export_writer.specs.Numbers.{first_writer, most_columns, writer_number, writer_of}
use Rattle.export_writer.specs.Replies.{reply_of, write_in, finish_in, file_by}

-- what bytes can say: rates of a byte, a number of columns of two
abbrev pub SmallStage : Stage → Type 0
SmallStage AwaitsSettings = Unit {0}
SmallStage (AwaitsColumns g left) = (g.error_rate_pre_umi.0 < 256) × (g.error_rate_post_umi.0 < 256) × (left < most_columns)
SmallStage AwaitsFinish = Unit {0}
SmallStage Finished = Unit {0}

-- and at most 65,536 bytes written
abbrev pub Small : Writer → Type 0
Small w = (w.written ≤ longest_file) × SmallStage w.stage

-- what a caller holds: its writer's number, and the buffer
pub record Held : Type 0 where
  pub number : ℕ
  pub file : List ℕ

-- of a draft
abbrev pub held_of : Draft → Held
held_of d = record { number = writer_number d.writer; file = d.file }

-- its number after a reply: a refusal leaves it the one that it had
abbrev pub number_after : ℕ → ℕ → ℕ
number_after n reply =
    if ltb reply first_writer then n
    else reply

-- after a step by its number
abbrev pub held_after : Step → Held → Held
held_after (put kind part) h =
    record { number = number_after h.number (reply_of (write_in h.number kind part h.file)); file = file_by h.number kind part h.file }
held_after finish h = record { number = number_after h.number (reply_of (finish_in h.number)); file = h.file }

-- after a list of them
abbrev pub held_after_all : List Step → Held → Held
held_after_all [] h = h
held_after_all (e ∷ es) h = held_after_all es (held_after e h)

-- of numbers and writers
pub record NumberLaws : Type 0 where
  -- no writer's number is that of a refusal
  pub no_refusal : (w : Writer) → Small w → first_writer ≤ writer_number w
  -- a writer's number is read back
  pub read_back : (w : Writer) → Small w → writer_of (writer_number w) ≡ Ok w
  -- and it is no other number's writer
  pub only : (n : ℕ) (w : Writer) → writer_of n ≡ Ok w → writer_number w ≡ n
  -- every list of steps leads to such a writer
  pub reached : (es : List Step) → are_bytes es ≡ true → (out : List ℕ) → Small (draft_after es out).writer
  -- steps by numbers, from the new writer's on, lead to the number of the writer and to the buffer that the steps lead to
  pub chained : (es : List Step) → are_bytes es ≡ true → (out : List ℕ)
      → held_after_all es (record { number = writer_number new_writer; file = out }) ≡ held_of (draft_after es out)
