-- The sample of SCOPE 6 written in five steps, and steps that are refused, each with its number.
use Rattle.std.specs.Prelude.{ℕ, Bool, ◌&&◌, List, [], ◌∷◌, ◌++◌, eqb, replicate}
use Rattle.words.specs.Lists.{same_bytes}
use Rattle.refusals.specs.Refusals.{number_in}
use Rattle.column_file.specs.Reading.{settings_at}
use Rattle.column_writer.specs.declared.stages.Stage.{Stage}
use Rattle.column_writer.specs.declared.stages.Stage.TheVariants.{AwaitsSettings, AwaitsColumns, Finished}
use Rattle.column_writer.specs.declared.stages.PartKind.{PartKind}
use Rattle.column_writer.specs.declared.stages.PartKind.TheVariants.{Settings as settings, Column as column, Strings as strings}
use Rattle.column_writer.specs.Writing.{put_in}
use Rattle.column_writer_laws.specs.Steps.{Step, put, finish, Draft, new_draft, said_of, after_step, draft_after}
use Rattle.column_writer_laws.specs.Conditions.{writer_at}

-- ---- steps from a new writer, and the number of each

-- 0 where a step is accepted
abbrev pub step_numbers : List Step → Draft → List ℕ
step_numbers [] d = []
step_numbers (e ∷ es) d = number_in (said_of e d) ∷ step_numbers es (after_step e d)

-- the sample's settings, with two columns announced
abbrev pub head : List ℕ
head = 3 ∷ 90 ∷ 90 ∷ 0 ∷ 2 ∷ 0 ∷ []

-- its second column
abbrev pub second : List ℕ
second = 3 ∷ 0 ∷ 65 ∷ 20 ∷ 67 ∷ 20 ∷ 78 ∷ 20 ∷ []

-- its strings
abbrev pub set : List ℕ
set = 2 ∷ 2 ∷ 65 ∷ 67 ∷ 2 ∷ 65 ∷ 71 ∷ []

-- the five steps
abbrev pub sample_steps : List Step
sample_steps = put settings head ∷ put column (0 ∷ 0 ∷ []) ∷ put column second ∷ put strings set ∷ finish ∷ []

-- the sample whole
abbrev pub sample_file : List ℕ
sample_file = head ++ (0 ∷ 0 ∷ second ++ set)

-- the same among steps that are refused: no settings, a rule of 2, a strings' part too early, a quality of 255, a third column, a finish too early, bytes left over
abbrev pub mixed_steps : List Step
mixed_steps =
    put column []
    ∷ put settings (3 ∷ 90 ∷ 90 ∷ 2 ∷ 2 ∷ 0 ∷ [])
    ∷ put settings head
    ∷ put strings set
    ∷ put column (0 ∷ 0 ∷ [])
    ∷ put column (1 ∷ 0 ∷ 78 ∷ 255 ∷ [])
    ∷ put column second
    ∷ put column second
    ∷ finish
    ∷ put strings (set ++ (0 ∷ []))
    ∷ put strings set
    ∷ finish
    ∷ finish
    ∷ put settings head
    ∷ []

-- and their numbers
abbrev pub mixed_numbers : List ℕ
mixed_numbers = 13 ∷ 3 ∷ 0 ∷ 13 ∷ 0 ∷ 4 ∷ 0 ∷ 13 ∷ 13 ∷ 2 ∷ 0 ∷ 0 ∷ 13 ∷ 13 ∷ []

-- ---- a part for a writer at a stage, with so many bytes written, and a buffer of so many bytes

-- with the number that is to be given
pub record Case : Type 0 where
  pub stage : Stage
  pub written : ℕ
  pub kind : PartKind
  pub part : List ℕ
  pub room : ℕ
  pub number : ℕ

-- at the sample's settings, so many columns to come
abbrev pub awaits : ℕ → Stage
awaits left = AwaitsColumns (settings_at 90 90 0) left

-- a column of one observation
abbrev pub single : ℕ → List ℕ
single quality = 1 ∷ 0 ∷ 65 ∷ quality ∷ []

-- the same in one line
abbrev pub case : Stage → ℕ → PartKind → List ℕ → ℕ → ℕ → Case
case stage written kind part room number = record { stage = stage; written = written; kind = kind; part = part; room = room; number = number }

-- the cases by number
abbrev pub cases : List Case
cases =
    -- 13 before 2: no bytes at all, out of turn
    case AwaitsSettings 0 column [] 0 13
    ∷ case Finished 0 settings (3 ∷ 90 ∷ []) 0 13
    -- 1 before 2: a cut off part that with the bytes already written is too long
    ∷ case (awaits 1) 65534 column (1 ∷ 0 ∷ 65 ∷ []) 65536 1
    -- 1 counts what is written: 40,000 bytes, and a part of 40,002
    ∷ case (awaits 1) 40000 column (32 ∷ 78 ∷ replicate 40000 20) 80002 1
    -- a part too long by itself
    ∷ case AwaitsSettings 0 settings (replicate 65537 0) 0 1
    -- 65,536 in all are accepted, 65,537 are not
    ∷ case (awaits 1) 65532 column (single 20) 65536 0
    ∷ case (awaits 1) 65533 column (single 20) 65537 1
    ∷ case (awaits 0) 65535 strings (0 ∷ []) 65536 0
    ∷ case (awaits 0) 65536 strings (0 ∷ []) 65537 1
    -- 2: cut off, or bytes left over; before 3 and 4
    ∷ case AwaitsSettings 0 settings (3 ∷ 90 ∷ 90 ∷ 0 ∷ 2 ∷ []) 9 2
    ∷ case AwaitsSettings 0 settings (3 ∷ 90 ∷ 90 ∷ 2 ∷ 2 ∷ 0 ∷ 0 ∷ []) 9 2
    ∷ case (awaits 1) 6 column (single 255 ++ (0 ∷ [])) 99 2
    ∷ case (awaits 0) 6 strings [] 99 2
    -- 3: two settings, a rule of 2; before 12
    ∷ case AwaitsSettings 0 settings (2 ∷ 90 ∷ 90 ∷ 2 ∷ 0 ∷ []) 9 3
    ∷ case AwaitsSettings 0 settings (3 ∷ 90 ∷ 90 ∷ 2 ∷ 2 ∷ 0 ∷ []) 0 3
    -- 4, before 12
    ∷ case (awaits 1) 6 column (single 255) 6 4
    -- 12: a byte short; exactly fitting it is accepted
    ∷ case (awaits 1) 6 column (single 254) 9 12
    ∷ case (awaits 1) 6 column (single 254) 10 0
    -- the announced columns need no room in advance
    ∷ case AwaitsSettings 0 settings (3 ∷ 0 ∷ 255 ∷ 1 ∷ 255 ∷ 255 ∷ []) 6 0
    -- none announced: the strings are next, and a column is too many
    ∷ case (awaits 0) 6 strings (0 ∷ []) 7 0
    ∷ case (awaits 0) 6 column (0 ∷ 0 ∷ []) 99 13
    -- the strings before the last column
    ∷ case (awaits 1) 6 strings (0 ∷ []) 99 13
    -- strings that a listing refuses by 8 can be written
    ∷ case (awaits 0) 6 strings (2 ∷ 1 ∷ 65 ∷ 1 ∷ 45 ∷ []) 99 0
    ∷ []

-- the number is the one that the definition gives
abbrev pub case_holds : Case → Bool
case_holds c = eqb (number_in (put_in (writer_at c.stage c.written) c.kind c.part (replicate c.room 0))) c.number

-- ---- the two lists of steps

-- a buffer of two bytes more than the sample
abbrev pub spare : List ℕ
spare = replicate 25 7

-- the steps give the sample and leave the two bytes
abbrev pub sample_written : List Step → Bool
sample_written es = same_bytes (draft_after es spare).file (sample_file ++ (7 ∷ 7 ∷ []))

-- all steps of the one list are accepted, and those of the other have their numbers
abbrev pub sample_numbers : Bool
sample_numbers = same_bytes (step_numbers sample_steps (new_draft spare)) (replicate 5 0) && same_bytes (step_numbers mixed_steps (new_draft spare)) mixed_numbers
