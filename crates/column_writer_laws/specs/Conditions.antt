-- The conditions of a step, each by itself: 13, then 1, then 2 to 4, then 12.
use Rattle.std.specs.List.{list_any}
use Rattle.std.specs.Prelude.{◌≡◌, Bool, true, false, not, List, ℕ, suc, ◌+◌, ◌≤◌, ◌<◌, length, Err, Ok}
use Rattle.refusals.specs.declared.Refusal.TheVariants.{CutOff}
use Rattle.refusals.specs.Refusals.{number_in}
use Rattle.refusals.specs.Result.{Result, and_then}
use Rattle.string_set.specs.Readers.{alone, longest_file}
use Rattle.string_set.specs.StringSet.{string_set}
use Rattle.column_file.specs.declared.settings.Settings.{Settings}
use Rattle.column_file.specs.Format.{Observation, announced, column as one_column}
use Rattle.column_file_laws.specs.Conditions.{is_settings, is_absent}
use Rattle.column_writer.specs.declared.stages.Stage.{Stage}
use Rattle.column_writer.specs.declared.stages.Stage.TheVariants.{AwaitsSettings, AwaitsColumns, AwaitsFinish, Finished}
use Rattle.column_writer.specs.declared.writer.Writer.{Writer}
use Rattle.column_writer.specs.declared.stages.PartKind.{PartKind}
use Rattle.column_writer.specs.declared.stages.PartKind.TheVariants.{Settings as settings, Column as column, Strings as strings}
use Rattle.column_writer.specs.Stages.{in_turn, awaits_finish}
use Rattle.column_writer.specs.Writing.{put_in, finish_of}

-- ---- a part

-- what a part is by its counts, up to its last byte: settings, observations, or strings, of which nothing more is asked
pub data ByCounts : Type 0 where
  counted_settings : List ℕ → ByCounts
  counted_column : List Observation → ByCounts
  counted_strings : ByCounts

-- so read, or 2
abbrev pub by_counts : PartKind → List ℕ → Result ByCounts
by_counts settings part = and_then (alone (announced part)) (λ a. Ok (counted_settings a.0))
by_counts column part = and_then (alone (one_column part)) (λ c. Ok (counted_column c))
by_counts strings part = and_then (alone (string_set part)) (λ l. Ok counted_strings)

-- settings that are not three, or whose rule is above 1
abbrev pub are_bad_settings : ByCounts → Bool
are_bad_settings (counted_settings bs) = not (is_settings bs)
are_bad_settings (counted_column c) = false
are_bad_settings counted_strings = false

-- a column with a quality of 255
abbrev pub has_absent : ByCounts → Bool
has_absent (counted_settings bs) = false
has_absent (counted_column c) = list_any is_absent c
has_absent counted_strings = false

-- a part: what it is refused by, in turn
pub record PartConditions (w : Writer) (kind : PartKind) (part file : List ℕ) : Type 0 where
  -- 13: it is not the part's turn, whatever its bytes
  pub out_of_turn : in_turn w.stage kind ≡ false → number_in (put_in w kind part file) ≡ 13
  -- 1: else, where the bytes already written and the part's are more than 65,536
  pub too_long : in_turn w.stage kind ≡ true → longest_file < w.written + length part → number_in (put_in w kind part file) ≡ 1
  -- 2: else, where its bytes are no such part up to the last
  pub cut_off : in_turn w.stage kind ≡ true → w.written + length part ≤ longest_file → by_counts kind part ≡ Err CutOff
      → number_in (put_in w kind part file) ≡ 2
  -- 3: else, where the settings are not three or the rule is above 1
  pub bad_settings : in_turn w.stage kind ≡ true → w.written + length part ≤ longest_file → (p : ByCounts) → by_counts kind part ≡ Ok p
      → are_bad_settings p ≡ true → number_in (put_in w kind part file) ≡ 3
  -- 4: else, where a quality is 255
  pub absent_quality_lem : in_turn w.stage kind ≡ true → w.written + length part ≤ longest_file → (p : ByCounts) → by_counts kind part ≡ Ok p
      → are_bad_settings p ≡ false → has_absent p ≡ true → number_in (put_in w kind part file) ≡ 4
  -- 12: else, where the buffer ends before the part does
  pub no_room : in_turn w.stage kind ≡ true → w.written + length part ≤ longest_file → (p : ByCounts) → by_counts kind part ≡ Ok p
      → are_bad_settings p ≡ false → has_absent p ≡ false → length file < w.written + length part → number_in (put_in w kind part file) ≡ 12
  -- and none else
  pub accepted_else : in_turn w.stage kind ≡ true → w.written + length part ≤ longest_file → (p : ByCounts) → by_counts kind part ≡ Ok p
      → are_bad_settings p ≡ false → has_absent p ≡ false → w.written + length part ≤ length file → number_in (put_in w kind part file) ≡ 0

-- ---- the finish

-- the finish likewise
pub record FinishConditions (w : Writer) : Type 0 where
  -- 13: not directly after the string set
  pub out_of_turn : awaits_finish w.stage ≡ false → number_in (finish_of w) ≡ 13
  -- and none else
  pub accepted_else : awaits_finish w.stage ≡ true → number_in (finish_of w) ≡ 0

-- ---- 13 in words, for any bytes already written, any part and any buffer

-- a writer at a stage
abbrev pub writer_at : Stage → ℕ → Writer
writer_at stage n = record { stage = stage; written = n }

-- each way to be out of turn
pub record TurnLaws (n : ℕ) (part file : List ℕ) : Type 0 where
  -- before the settings neither a column nor the strings
  pub column_first : number_in (put_in (writer_at AwaitsSettings n) column part file) ≡ 13
  pub strings_first : number_in (put_in (writer_at AwaitsSettings n) strings part file) ≡ 13
  -- the settings once
  pub settings_again : (g : Settings) (left : ℕ) → number_in (put_in (writer_at (AwaitsColumns g left) n) settings part file) ≡ 13
  -- one column too many
  pub column_too_many : (g : Settings) → number_in (put_in (writer_at (AwaitsColumns g 0) n) column part file) ≡ 13
  -- the strings before the announced number of columns
  pub strings_early : (g : Settings) (left : ℕ) → number_in (put_in (writer_at (AwaitsColumns g (suc left)) n) strings part file) ≡ 13
  -- after the strings no part
  pub after_strings_lem : (kind : PartKind) → number_in (put_in (writer_at AwaitsFinish n) kind part file) ≡ 13
  -- a finish before the strings
  pub finish_first : number_in (finish_of (writer_at AwaitsSettings n)) ≡ 13
  pub finish_early : (g : Settings) (left : ℕ) → number_in (finish_of (writer_at (AwaitsColumns g left) n)) ≡ 13
  -- after the finish no step
  pub after_finish : (kind : PartKind) → number_in (put_in (writer_at Finished n) kind part file) ≡ 13
  pub finish_again : number_in (finish_of (writer_at Finished n)) ≡ 13
