-- The conditions of a step, each by itself. Assumes nothing.
use Rattle.std.specs.Prelude.{Err, Ok}
use mathlib.Core.Path.{◌≡◌, refl, subst}
use mathlib.Core.Bool.{true, false}
use mathlib.Core.List.{List}
use Prim.Native.Nat.{ℕ, suc, ◌+◌, ◌≤◌, ◌<◌}
use native.Mathlib.Omega.{arith}
use borrow.Author.Tests.{lt-ltb, le-ltb, ne_eqb, not-true, not-false}
use lib.ListN.{length}
use Rattle.words.proofs.Cases.{clash}
use Rattle.words.specs.Lists.{byte_at}
use Rattle.refusals.specs.declared.Refusal.TheVariants.{CutOff, BadSettings, AbsentQuality}
use Rattle.refusals.specs.Refusals.{number_in}
use Rattle.refusals.specs.Result.{Result, and_then, judged}
use Rattle.string_set.specs.Readers.{alone, longest_file}
use Rattle.string_set.specs.StringSet.{string_set, read_set}
use Rattle.column_file.specs.declared.settings.Settings.{Settings}
use Rattle.column_file.specs.Format.{Observation, announced, column as one_column}
use Rattle.column_file.specs.Reading.{settings_at, settings_of, column_verdict, read_settings, read_column}
use Rattle.column_file_laws.specs.Conditions.{is_settings}
use Rattle.column_file_laws.proofs.ConditionLaws.{column_absent}
use Rattle.column_writer.specs.declared.stages.Stage.{Stage}
use Rattle.column_writer.specs.declared.stages.Stage.TheVariants.{AwaitsColumns, AwaitsFinish}
use Rattle.column_writer.specs.declared.stages.PartKind.{PartKind}
use Rattle.column_writer.specs.declared.stages.PartKind.TheVariants.{Settings as settings, Column as column, Strings as strings}
use Rattle.column_writer.specs.declared.writer.Writer.{Writer}
use Rattle.column_writer.specs.Stages.{in_turn, one_column_less, after_settings, after_column, after_strings, next_stage}
use Rattle.column_writer.specs.Writing.{room_for_part, put_in, finish_of}
use Rattle.column_writer_laws.specs.Conditions.{ByCounts, counted_settings, counted_column, counted_strings, by_counts, are_bad_settings, has_absent}
use Rattle.column_writer_laws.specs.Conditions.{PartConditions, FinishConditions, TurnLaws}

-- ---- what the reader says of a part, by what it is by its counts

abbrev By : Result ByCounts → Result Stage → Type 0
By (Err r) read = read ≡ Err r
By (Ok p) read =
    (are_bad_settings p ≡ true → read ≡ Err BadSettings)
    × (are_bad_settings p ≡ false → has_absent p ≡ true → read ≡ Err AbsentQuality)
    × (are_bad_settings p ≡ false → has_absent p ≡ false → (next : Stage) × (read ≡ Ok next))

abbrev settled : Result (List ℕ × ℕ) → Result (Settings × ℕ)
settled q = and_then q (λ a. and_then (settings_of a.0) (λ g. Ok (g, a.1)))

settings_by : (q : Result (List ℕ × ℕ)) → By (and_then q (λ a. Ok (counted_settings a.0))) (and_then (settled q) (λ a. Ok (AwaitsColumns a.0 a.1)))
unfolding settings_of
settings_by (Err r) = refl
settings_by (Ok a) =
    let bs = a.0 in (
      (λ t. rw (not-true (is_settings bs) t)),
      (λ t e. clash refl e),
      (λ t e. (AwaitsColumns (settings_at (byte_at bs 0) (byte_at bs 1) (byte_at bs 2)) a.1, rw (not-false (is_settings bs) t))),
    )

column_by : (stage : Stage) (q : Result (List Observation)) → By (and_then q (λ c. Ok (counted_column c)))
    (and_then (and_then q (λ c. judged (column_verdict c) c)) (λ c. Ok (one_column_less stage)))
column_by stage (Err r) = refl
column_by stage (Ok c) = ((λ t. clash refl t), (λ t e. rw (column_absent c, e)), (λ t e. (one_column_less stage, rw (column_absent c, e))))

strings_by : (q : Result (List (List ℕ))) → By (and_then q (λ l. Ok counted_strings)) (and_then q (λ l. Ok AwaitsFinish))
strings_by (Err r) = refl
strings_by (Ok l) = ((λ t. clash refl t), (λ t e. clash refl e), (λ t e. (AwaitsFinish, refl)))

part_by : (stage : Stage) (kind : PartKind) (part : List ℕ) → length part ≤ longest_file → By (by_counts kind part) (next_stage stage kind part)
unfolding after_settings after_column after_strings read_settings read_column read_set
part_by stage settings part h = rw (le-ltb longest_file (length part) h) (settings_by (alone (announced part)))
part_by stage column part h = rw (le-ltb longest_file (length part) h) (column_by stage (alone (one_column part)))
part_by stage strings part h = rw (le-ltb longest_file (length part) h) (strings_by (alone (string_set part)))

-- ---- a part

module _ (w : Writer) (kind : PartKind) (part file : List ℕ) where
  thirteen : in_turn w.stage kind ≡ false → number_in (put_in w kind part file) ≡ 13
  unfolding put_in
  thirteen t = rw t

  module _ (turn : in_turn w.stage kind ≡ true) where
    one : longest_file < w.written + length part → number_in (put_in w kind part file) ≡ 1
    unfolding put_in
    one h = rw (turn, lt-ltb longest_file (w.written + length part) h)

    module _ (short : w.written + length part ≤ longest_file) where
      by : By (by_counts kind part) (next_stage w.stage kind part)
      by = part_by w.stage kind part (omega arith)

      two : by_counts kind part ≡ Err CutOff → number_in (put_in w kind part file) ≡ 2
      unfolding put_in
      two e = rw (turn, le-ltb longest_file (w.written + length part) short, subst (λ (q : Result ByCounts). By q (next_stage w.stage kind part)) e by)

      module _ (p : ByCounts) (e : by_counts kind part ≡ Ok p) where
        known : By (Ok p) (next_stage w.stage kind part)
        known = subst (λ (q : Result ByCounts). By q (next_stage w.stage kind part)) e by

        three : are_bad_settings p ≡ true → number_in (put_in w kind part file) ≡ 3
        unfolding put_in
        three b = rw (turn, le-ltb longest_file (w.written + length part) short, known.0 b)

        four : are_bad_settings p ≡ false → has_absent p ≡ true → number_in (put_in w kind part file) ≡ 4
        unfolding put_in
        four b a = rw (turn, le-ltb longest_file (w.written + length part) short, known.1 b a)

        twelve : are_bad_settings p ≡ false → has_absent p ≡ false → length file < w.written + length part → number_in (put_in w kind part file) ≡ 12
        unfolding put_in room_for_part
        twelve b a h =
            rw (turn, le-ltb longest_file (w.written + length part) short, (known.2 b a).1, lt-ltb (length file) (w.written + length part) h)

        none : are_bad_settings p ≡ false → has_absent p ≡ false → w.written + length part ≤ length file → number_in (put_in w kind part file) ≡ 0
        unfolding put_in room_for_part
        none b a h =
            rw (turn, le-ltb longest_file (w.written + length part) short, (known.2 b a).1, le-ltb (length file) (w.written + length part) h)

pub part_conditions : (w : Writer) (kind : PartKind) (part file : List ℕ) → PartConditions w kind part file
part_conditions w kind part file = record {
  out_of_turn = thirteen w kind part file;
  too_long = one w kind part file;
  cut_off = two w kind part file;
  bad_settings = three w kind part file;
  absent_quality_lem = four w kind part file;
  no_room = twelve w kind part file;
  accepted_else = none w kind part file;
}

-- ---- the finish, and 13 in words

pub finish_conditions : (w : Writer) → FinishConditions w
unfolding finish_of
finish_conditions w = record { out_of_turn = λ t. rw t; accepted_else = λ t. rw t }

pub turn_laws : (n : ℕ) (part file : List ℕ) → TurnLaws n part file
unfolding put_in finish_of
turn_laws n part file = record {
  column_first = refl;
  strings_first = refl;
  settings_again = λ g left. refl;
  column_too_many = λ g. refl;
  strings_early = λ g left. rw (ne_eqb (suc left) 0 (λ e. omega (arith, e)));
  after_strings_lem = λ kind. refl;
  finish_first = refl;
  finish_early = λ g left. refl;
  after_finish = λ kind. refl;
  finish_again = refl;
}
