-- A draft of which the first bytes are known, and a part behind them. Assumes nothing.
use Rattle.std.specs.Prelude.{Err, Ok}
use mathlib.Core.Path.{◌≡◌, refl, ◌∙◌}
use mathlib.Core.Bool.{true, not}
use mathlib.Core.List.{List, ◌++◌}
use Prim.Native.Nat.{ℕ, ◌+◌, ◌≤◌}
use native.Mathlib.Omega.{arith}
use borrow.Author.Tests.{le-ltb, le-leb, ltb-false, not-false}
use lib.Dec.{ltb}
use lib.ListN.{length, drop, length-append, length-drop}
use lib.Seq.{take-append_seam, drop-append-add, drop-drop}
use Rattle.words.proofs.Cases.{choice}
use Rattle.lent_bytes.specs.Buffer.{written_at}
use Rattle.refusals.specs.Result.{Result}
use Rattle.string_set.specs.Readers.{longest_file}
use Rattle.column_file_laws.proofs.Both.{Accepting, further}
use Rattle.column_writer.specs.declared.stages.Stage.{Stage}
use Rattle.column_writer.specs.declared.writer.Writer.{Writer}
use Rattle.column_writer.specs.declared.stages.PartKind.{PartKind}
use Rattle.column_writer.specs.Stages.{in_turn}
use Rattle.column_writer.specs.Stages.{next_stage}
use Rattle.column_writer.specs.Writing.{room_for_part, put_in}
use Rattle.column_writer_laws.specs.Steps.{put, Draft, said_of, after_step}

-- the bytes bs are written, in a buffer that held out
abbrev pub draft_at : Stage → List ℕ → List ℕ → Draft
draft_at stage bs out = record { writer = record { stage = stage; written = length bs }; file = bs ++ drop (length bs) out }

-- its buffer is as long as it was
pub drafted_length : (bs out : List ℕ) → length bs ≤ length out → length (bs ++ drop (length bs) out) ≡ length out
drafted_length bs out h = simp (length-append, length-drop) (omega arith)

-- a part more
pub part-more : (bs part out : List ℕ) → length (bs ++ part) ≤ length out
    → written_at (length bs) part (bs ++ drop (length bs) out) ≡ (bs ++ part) ++ drop (length (bs ++ part)) out
unfolding written_at
part-more bs part out h =
    let size = length-append bs part in
    let fits : length bs + length part ≤ length (bs ++ drop (length bs) out) = rw (drafted_length bs out (omega arith)) (omega arith) in
    let rest : drop (length bs + length part) (bs ++ drop (length bs) out) ≡ drop (length bs + length part) out =
    drop-append-add bs (drop (length bs) out) (length part) ∙ drop-drop (length part) (length bs) out in
    rw (le-leb (length bs + length part) (length (bs ++ drop (length bs) out)) fits, take-append_seam bs (drop (length bs) out), rest, size)

-- a part in turn that the reader accepts, where neither the file nor the buffer is too short for it
module _ (stage next : Stage) (kind : PartKind) (part bs out : List ℕ) (turn : in_turn stage kind ≡ true)
    (reads : next_stage stage kind part ≡ Ok next) (short : length (bs ++ part) ≤ longest_file) (room : length (bs ++ part) ≤ length out) where
  pub put_said : said_of (put kind part) (draft_at stage bs out) ≡ Ok (record { stage = next; written = length (bs ++ part) })
  unfolding put_in room_for_part
  put_said =
      let size = length-append bs part in
      let within : length bs + length part ≤ longest_file = omega arith in
      let fits : length bs + length part ≤ length (bs ++ drop (length bs) out) = rw (drafted_length bs out (omega arith)) (omega arith) in
      rw (turn, le-ltb longest_file (length bs + length part) within, reads, le-ltb (length (bs ++ drop (length bs) out)) (length bs + length part) fits, size)

  pub put_steps : after_step (put kind part) (draft_at stage bs out) ≡ draft_at next (bs ++ part) out
  put_steps = rw (put_said, part-more bs part out room)

-- what is known of a part that is accepted
pub record Put (w : Writer) (kind : PartKind) (part file : List ℕ) (v : Writer) : Type 0 where
  pub turn : in_turn w.stage kind ≡ true
  pub short : w.written + length part ≤ longest_file
  pub room : w.written + length part ≤ length file
  pub reads : next_stage w.stage kind part ≡ Ok v.stage
  pub written : v.written ≡ w.written + length part

-- what is known of what is accepted
pub read_part : {A : Type 0} (P : A → Type 0) (q : Result A) → ((a : A) → q ≡ Ok a → P a) → Accepting P q
read_part P (Err r) h = tt
read_part P (Ok a) h = h a refl

pub put_known : (w : Writer) (kind : PartKind) (part file : List ℕ) → Accepting (Put w kind part file) (put_in w kind part file)
unfolding put_in room_for_part
put_known w kind part file =
    let end = w.written + length part in
    choice (Accepting (Put w kind part file)) (not (in_turn w.stage kind)) _ _ (λ e. tt)
    (λ t. choice (Accepting (Put w kind part file)) (ltb longest_file end) _ _ (λ e. tt)
    (λ s. further (λ next. next_stage w.stage kind part ≡ Ok next) (Put w kind part file) (next_stage w.stage kind part) _ (read_part (λ next. next_stage w.stage kind part ≡ Ok next) (next_stage w.stage kind part) (λ next e. e))
    (λ next n. choice (Accepting (Put w kind part file)) (ltb (length file) end) _ _ (λ e. tt)
    (λ r. record { turn = not-false _ t; short = ltb-false longest_file end s; room = ltb-false (length file) end r; reads = n; written = refl }))))
