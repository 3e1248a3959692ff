-- Every list of steps leads to a writer that has a number, and steps by numbers are the steps. Assumes nothing.
use Rattle.std.specs.Prelude.{Err, Ok}
use Rattle.std.specs.List.{list_all}
use mathlib.Core.Path.{◌≡◌, refl, ◌∙◌, ap, subst}
use mathlib.Core.Bool.{true}
use mathlib.Core.List.{List, [], ◌∷◌}
use Prim.Native.Nat.{ℕ, ◌/◌, ◌%◌}
use native.Mathlib.Omega.{arith}
use borrow.Author.Tests.{lt-ltb, le-ltb, ltb-true}
use Rattle.words.proofs.Cases.{both}
use Rattle.refusals.specs.Refusals.{number_of}
use Rattle.refusals.specs.Result.{Result}
use Rattle.refusals.proofs.Numbers.{number_small}
use Rattle.string_set.specs.StringSet.{read_set}
use Rattle.column_file.specs.declared.settings.Settings.{Settings}
use Rattle.column_file.specs.Reading.{read_settings, read_column}
use Rattle.tie_rules.specs.Ties.{rule_number}
use Rattle.column_file.specs.Encoding.{settings_bytes, announced_bytes}
use Rattle.column_file_laws.specs.Encoding.{is_byte}
use Rattle.column_file_laws.proofs.Both.{Accepting, further}
use Rattle.column_file_laws.proofs.Parts.{parts_both_ways}
use Rattle.column_writer.specs.declared.stages.Stage.{Stage}
use Rattle.column_writer.specs.declared.stages.Stage.TheVariants.{AwaitsSettings, AwaitsColumns, AwaitsFinish, Finished}
use Rattle.column_writer.specs.declared.stages.PartKind.{PartKind}
use Rattle.column_writer.specs.declared.stages.PartKind.TheVariants.{Settings as settings, Column as column, Strings as strings}
use Rattle.column_writer.specs.declared.writer.Writer.{Writer}
use Rattle.column_writer.specs.Stages.{one_column_less, after_settings, after_column, after_strings, next_stage}
use Rattle.column_writer.specs.Writing.{new_writer, put_in, finish_of, writer_after}
use Rattle.column_writer_laws.specs.Steps.{Step, put, finish, part_of, Draft, new_draft, said_of, after_step, after_steps}
use Rattle.column_writer_laws.specs.Laws.{are_bytes}
use Rattle.column_writer_laws.proofs.Drafts.{read_part, Put, put_known}
use Rattle.column_writer_laws.proofs.LedTo.{outcome, finish_known}
use Rattle.column_writer_laws.proofs.Laws.{nothing_put}
use Rattle.export_writer.specs.Numbers.{first_writer, writer_number}
use Rattle.export_writer.specs.Replies.{reply_of, write_in, finish_in, file_by}
use Rattle.export_writer.specs.Laws.{SmallStage, Small, held_of, number_after, held_after, held_after_all, NumberLaws}
use Rattle.export_writer.proofs.Back.{no_refusal, read_back, only}

-- ---- every writer that is reached has a number

-- two bytes hold a number below 65,536
small_announced : (g : Settings) (n : ℕ) → list_all is_byte (announced_bytes g n) ≡ true → SmallStage (AwaitsColumns g n)
unfolding settings_bytes
small_announced g n h =
    let a = both (is_byte g.error_rate_pre_umi.0) _ h in
    let b = both (is_byte g.error_rate_post_umi.0) _ a.1 in
    let c = both (is_byte (rule_number g.tie_rule)) _ b.1 in
    let d = both (is_byte (n % 256)) _ c.1 in
    let e = both (is_byte (n / 256)) true d.1 in
    let high = ltb-true (n / 256) 256 e.0 in
    (ltb-true _ 256 a.0, ltb-true _ 256 b.0, omega arith)

less_small : (stage : Stage) → SmallStage stage → SmallStage (one_column_less stage)
less_small AwaitsSettings s = tt
less_small (AwaitsColumns g left) s = (s.0, s.1, omega (arith, s.2))
less_small AwaitsFinish s = tt
less_small Finished s = tt

small_next : (stage : Stage) (kind : PartKind) (part : List ℕ) → list_all is_byte part ≡ true → SmallStage stage → Accepting SmallStage (next_stage stage kind part)
unfolding after_settings after_column after_strings
small_next stage settings part h s =
    further (λ a. announced_bytes a.0 a.1 ≡ part) SmallStage (read_settings part) _
    (read_part (λ a. announced_bytes a.0 a.1 ≡ part) (read_settings part) (λ a e. (parts_both_ways.settings.accepted_reads part h a e).0))
    (λ a e. small_announced a.0 a.1 (rw e h))
small_next stage column part h s = further (λ c. Unit {0}) SmallStage (read_column part) _ (read_part (λ c. Unit {0}) (read_column part) (λ c e. tt)) (λ c u. less_small stage s)
small_next stage strings part h s = further (λ l. Unit {0}) SmallStage (read_set part) _ (read_part (λ l. Unit {0}) (read_set part) (λ l e. tt)) (λ l u. tt)

small_said : (e : Step) (d : Draft) → list_all is_byte (part_of e) ≡ true → Small d.writer → Accepting Small (said_of e d)
small_said (put kind part) d h s =
    read_part Small (said_of (put kind part) d)
    (λ v q.
    let k : Put d.writer kind part d.file v = subst (Accepting (Put d.writer kind part d.file)) q (put_known d.writer kind part d.file) in
    (omega (arith, k.written, k.short), subst (Accepting SmallStage) k.reads (small_next d.writer.stage kind part h s.1)))
small_said finish d h s =
    read_part Small (said_of finish d)
    (λ v q. rw (subst (Accepting _) q (finish_known d.writer)).1 (s.0, tt))

small_after : (w : Writer) (q : Result Writer) → Small w → Accepting Small q → Small (writer_after w q)
small_after w (Err r) s a = s
small_after w (Ok v) s a = a

-- ---- a step by a number

number_after_lem : (w : Writer) (q : Result Writer) → Accepting Small q → number_after (writer_number w) (reply_of q) ≡ writer_number (writer_after w q)
number_after_lem w (Err r) a = let small = number_small r in rw (lt-ltb (number_of r) first_writer (omega arith))
number_after_lem w (Ok v) a = rw (le-ltb (writer_number v) first_writer (no_refusal v a))

called_put : (kind : PartKind) (part : List ℕ) (d : Draft) → Small d.writer → Accepting Small (put_in d.writer kind part d.file)
    → held_after (put kind part) (held_of d) ≡ held_of (after_step (put kind part) d)
unfolding write_in file_by
called_put kind part d s a = rw (read_back d.writer s, number_after_lem d.writer (put_in d.writer kind part d.file) a)

-- a finish leaves the buffer
finish_file : (d : Draft) → (after_step finish d).file ≡ d.file
finish_file d = outcome (said_of finish d) (λ r q. rw q) (λ v q. rw q (nothing_put d.writer.written d.file))

called_finish : (d : Draft) → Small d.writer → Accepting Small (finish_of d.writer) → held_after finish (held_of d) ≡ held_of (after_step finish d)
unfolding finish_in
called_finish d s a = rw (read_back d.writer s, number_after_lem d.writer (finish_of d.writer) a, finish_file d)

called_one : (e : Step) (d : Draft) → Small d.writer → Accepting Small (said_of e d) → held_after e (held_of d) ≡ held_of (after_step e d)
called_one (put kind part) d s a = called_put kind part d s a
called_one finish d s a = called_finish d s a

-- ---- a list of them

module _ (e : Step) (es : List Step) (h : are_bytes (e ∷ es) ≡ true) (d : Draft) (s : Small d.writer) where
  abbrev are : (list_all is_byte (part_of e) ≡ true) × (are_bytes es ≡ true)
  are = both (list_all is_byte (part_of e)) (are_bytes es) h

  said_small : Accepting Small (said_of e d)
  said_small = small_said e d are.0 s

  step_small : Small (after_step e d).writer
  step_small = small_after d.writer (said_of e d) s said_small

run_small : (es : List Step) → are_bytes es ≡ true → (d : Draft) → Small d.writer → Small (after_steps es d).writer
run_small [] h d s = s
run_small (e ∷ es) h d s = run_small es (are e es h d s).1 (after_step e d) (step_small e es h d s)

called_run : (es : List Step) → are_bytes es ≡ true → (d : Draft) → Small d.writer → held_after_all es (held_of d) ≡ held_of (after_steps es d)
called_run [] h d s = refl
called_run (e ∷ es) h d s =
    ap (held_after_all es) (called_one e d s (said_small e es h d s)) ∙ called_run es (are e es h d s).1 (after_step e d) (step_small e es h d s)

new_small : Small new_writer
new_small = (omega arith, tt)

pub number_laws : NumberLaws
number_laws = record {
  no_refusal = no_refusal;
  read_back = read_back;
  only = only;
  reached = λ es h out. run_small es h (new_draft out) new_small;
  chained = λ es h out. called_run es h (new_draft out) new_small;
}
