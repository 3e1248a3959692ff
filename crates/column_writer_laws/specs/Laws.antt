-- A finished file reads as what was written, what was read is written as the same bytes, and what a step leaves alone.
use Rattle.std.specs.List.{list_all}
use Rattle.std.specs.Prelude.{◌≡◌, Bool, true, List, ◌++◌, ℕ, ◌+◌, ◌≤◌, length, take, drop, Err, Ok}
use Rattle.refusals.specs.declared.Refusal.{Refusal}
use Rattle.column_file.specs.Reading.{File, read_file}
use Rattle.column_file_laws.specs.Encoding.{is_byte}
use Rattle.column_writer.specs.declared.stages.Stage.TheVariants.{Finished}
use Rattle.column_writer.specs.declared.writer.Writer.{Writer}
use Rattle.column_writer_laws.specs.Steps.{Step, part_of, Draft, new_draft, said_of, after_step, draft_after, kept, file_steps}

-- every part is bytes, as a slice of u8 is
abbrev pub are_bytes : List Step → Bool
are_bytes es = list_all (λ e. list_all is_byte (part_of e)) es

-- a draft whose first bytes are a whole file: es were its steps, and out is what the buffer held before the first
pub record IsFile (es : List Step) (out : List ℕ) (d : Draft) : Type 0 where
  -- what the file says
  pub says : File
  -- the steps that were accepted are those that write this, no more, no fewer, in this order
  pub steps : kept es (new_draft out) ≡ file_steps says
  -- the bytes written read as this
  pub reads : read_file (take d.writer.written d.file) ≡ Ok says
  -- and the buffer beyond them is as it was
  pub beyond : drop d.writer.written d.file ≡ drop d.writer.written out
  -- as long as it was
  pub as_long : length d.file ≡ length out

-- s, which says f, written again into a buffer: every step is accepted, and the bytes are the same
pub record Rewritten (s : List ℕ) (f : File) (out : List ℕ) : Type 0 where
  pub all : kept (file_steps f) (new_draft out) ≡ file_steps f
  pub stage : (draft_after (file_steps f) out).writer.stage ≡ Finished
  pub written : (draft_after (file_steps f) out).writer.written ≡ length s
  pub bytes : (draft_after (file_steps f) out).file ≡ s ++ drop (length s) out

-- a buffer before and after the bytes of a part were put at a place: only they are others
pub record OnlyPart (at : ℕ) (part before after : List ℕ) : Type 0 where
  pub as_long : length after ≡ length before
  pub front : take at after ≡ take at before
  pub there : take (length part) (drop at after) ≡ part
  pub beyond : drop (at + length part) after ≡ drop (at + length part) before

-- of every list of steps, and of each step
pub record WriterLaws : Type 0 where
  -- whatever the steps, refused ones anywhere among them: where the writer is finished, its file reads as the accepted ones
  pub finished_reads : (es : List Step) → are_bytes es ≡ true → (out : List ℕ)
      → (draft_after es out).writer.stage ≡ Finished → IsFile es out (draft_after es out)
  -- every file that is read is written again, where there is room
  pub rewrites : (s : List ℕ) → list_all is_byte s ≡ true → (f : File) → read_file s ≡ Ok f → (out : List ℕ) → length s ≤ length out → Rewritten s f out
  -- a refusal leaves the draft as it was
  pub refused_nothing : (e : Step) (d : Draft) (r : Refusal) → said_of e d ≡ Err r → after_step e d ≡ d
  -- else the part's bytes stand behind those already written, and no other byte of the buffer is another
  pub only_its_part : (e : Step) (d : Draft) (w : Writer) → said_of e d ≡ Ok w
      → (w.written ≡ d.writer.written + length (part_of e)) × OnlyPart d.writer.written (part_of e) d.file (after_step e d).file
