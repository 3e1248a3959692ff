-- What holds of the draft after any list of steps: its bytes are those of the accepted ones. Assumes nothing.
use Rattle.std.specs.Prelude.{Err, Ok}
use Rattle.std.specs.List.{list_all}
use mathlib.Core.Path.{◌≡◌, refl, sym, ◌∙◌, ap, subst}
use mathlib.Core.Bool.{true, not}
use mathlib.Core.List.{List, [], ◌∷◌, ◌++◌, append-nil, append_assoc}
use Prim.Native.Nat.{ℕ, ◌≤◌}
use native.Mathlib.Omega.{arith}
use borrow.Author.Tests.{not-false}
use lib.ListN.{length, length-append}
use Rattle.words.proofs.Cases.{choice, both}
use Rattle.lent_bytes.specs.Bytes.{joined}
use Rattle.lent_bytes.proofs.Joined.{joined_append}
use Rattle.refusals.specs.declared.Refusal.{Refusal}
use Rattle.refusals.specs.Result.{Result}
use Rattle.string_set.specs.Readers.{longest_file}
use Rattle.column_file_laws.specs.Encoding.{is_byte}
use Rattle.column_file_laws.proofs.Both.{Accepting}
use Rattle.column_writer.specs.declared.stages.Stage.{Stage}
use Rattle.column_writer.specs.declared.stages.Stage.TheVariants.{AwaitsSettings, Finished}
use Rattle.column_writer.specs.declared.stages.PartKind.{PartKind}
use Rattle.column_writer.specs.declared.writer.Writer.{Writer}
use Rattle.column_writer.specs.Stages.{awaits_finish}
use Rattle.column_writer.specs.Writing.{finish_of}
use Rattle.column_writer_laws.specs.Steps.{Step, put, finish, part_of, Draft, new_draft, said_of, after_step, after_steps, draft_after, kept_by, kept}
use Rattle.column_writer_laws.specs.Laws.{are_bytes}
use Rattle.column_writer_laws.proofs.Drafts.{draft_at, drafted_length, part-more, put_steps, Put, put_known}
use Rattle.column_writer_laws.proofs.Accepted.{Shape, shape_more, shape_finished}

-- what follows from either outcome
pub outcome : {A P : Type 0} (q : Result A) → ((r : Refusal) → q ≡ Err r → P) → ((a : A) → q ≡ Ok a → P) → P
outcome (Err r) h k = h r refl
outcome (Ok a) h k = k a refl

-- a finish that is accepted
pub finish_known : (w : Writer) → Accepting (λ v. (awaits_finish w.stage ≡ true) × (v ≡ record { stage = Finished; written = w.written })) (finish_of w)
unfolding finish_of
finish_known w =
    choice (Accepting (λ v. (awaits_finish w.stage ≡ true) × (v ≡ record { stage = Finished; written = w.written }))) (not (awaits_finish w.stage)) _ _
    (λ e. tt)
    (λ t. (not-false _ t, refl))

module _ (out : List ℕ) where
  -- the accepted steps es have led to this draft
  pub record LedTo (es : List Step) (d : Draft) : Type 0 where
    pub stage : Stage
    pub draft : d ≡ draft_at stage (joined part_of es) out
    pub short : length (joined part_of es) ≤ longest_file
    pub room : length (joined part_of es) ≤ length out
    pub shape : Shape stage es

  -- the bytes with one step more
  joined_one : (es : List Step) (e : Step) → joined part_of (es ++ (e ∷ [])) ≡ joined part_of es ++ part_of e
  joined_one es e = rw (joined_append part_of es (e ∷ []), append-nil (part_of e))

  module _ (es : List Step) (stage : Stage) (short : length (joined part_of es) ≤ longest_file) (room : length (joined part_of es) ≤ length out) (shape : Shape stage es) where
    abbrev before : Draft
    before = draft_at stage (joined part_of es) out

    put_held : (kind : PartKind) (part : List ℕ) → list_all is_byte part ≡ true → (v : Writer) → said_of (put kind part) before ≡ Ok v
        → LedTo (es ++ (put kind part ∷ [])) (after_step (put kind part) before)
    put_held kind part h v q =
        let bs = joined part_of es in
        let k : Put before.writer kind part before.file v = subst (Accepting (Put before.writer kind part before.file)) q (put_known before.writer kind part before.file) in
        let one = joined_one es (put kind part) in
        let size = length-append bs part in
        let within : length (bs ++ part) ≤ longest_file = omega (arith, k.short) in
        let fits : length (bs ++ part) ≤ length out = omega (arith, k.room, drafted_length bs out room) in
        record {
          stage = v.stage;
          draft = put_steps stage v.stage kind part bs out k.turn k.reads within fits ∙ ap (λ (l : List ℕ). draft_at v.stage l out) (sym one);
          short = rw one within;
          room = rw one fits;
          shape = subst (Accepting (λ (next : Stage). Shape next (es ++ (put kind part ∷ [])))) k.reads (shape_more part es h kind stage k.turn shape);
        }

    finish_held : (v : Writer) → said_of finish before ≡ Ok v → LedTo (es ++ (finish ∷ [])) (after_step finish before)
    finish_held v q =
        let bs = joined part_of es in
        let k = subst (Accepting (λ (v : Writer). (awaits_finish stage ≡ true) × (v ≡ record { stage = Finished; written = length bs }))) q (finish_known before.writer) in
        let one = joined_one es finish ∙ append-nil bs in
        let same : length (bs ++ []) ≤ length out = rw (append-nil bs) room in
        record {
          stage = Finished;
          draft = rw (q, k.1, part-more bs [] out same, one, append-nil bs);
          short = rw one short;
          room = rw one room;
          shape = shape_finished stage es k.0 shape;
        }

    step_held : (e : Step) → list_all is_byte (part_of e) ≡ true → (v : Writer) → said_of e before ≡ Ok v → LedTo (es ++ (e ∷ [])) (after_step e before)
    step_held (put kind part) h v q = put_held kind part h v q
    step_held finish h v q = finish_held v q

  -- a step that is accepted is kept
  kept_more : (es : List Step) (e : Step) (l : List Step) (q : Result Writer) (v : Writer) → q ≡ Ok v → es ++ kept_by e q l ≡ (es ++ (e ∷ [])) ++ l
  kept_more es e l q v h = rw (h, append_assoc es (e ∷ []) l)

  run_held : (steps es : List Step) (stage : Stage) → are_bytes steps ≡ true → length (joined part_of es) ≤ longest_file → length (joined part_of es) ≤ length out → Shape stage es
      → LedTo (es ++ kept steps (draft_at stage (joined part_of es) out)) (after_steps steps (draft_at stage (joined part_of es) out))
  run_held [] es stage h short room shape = rw (append-nil es) (record { stage = stage; draft = refl; short = short; room = room; shape = shape })
  run_held (e ∷ steps) es stage h short room shape =
      let d = draft_at stage (joined part_of es) out in
      let are = both (list_all is_byte (part_of e)) (are_bytes steps) h in
      outcome (said_of e d)
      (λ r q. rw q (run_held steps es stage are.1 short room shape))
      (λ v q.
      let k = step_held es stage short room shape e are.0 v q in
      let on = run_held steps (es ++ (e ∷ [])) k.stage are.1 k.short k.room k.shape in
      let there = subst (λ (x : Draft). LedTo ((es ++ (e ∷ [])) ++ kept steps x) (after_steps steps x)) (sym k.draft) on in
      subst (λ (l : List Step). LedTo l (after_steps steps (after_step e d))) (sym (kept_more es e (kept steps (after_step e d)) (said_of e d) v q)) there)

  -- from a new writer on
  pub led_to : (steps : List Step) → are_bytes steps ≡ true → LedTo (kept steps (new_draft out)) (draft_after steps out)
  led_to steps h = run_held steps [] AwaitsSettings h (omega arith) (omega arith) refl
