-- A writer as one number that nobody takes apart, 256 or more, and the writer of a number. `NumberLaws` (Laws): each leads back to the other.
use Rattle.std.specs.Prelude.{ℕ, ◌+◌, ◌-◌, ◌*◌, ◌/◌, ◌%◌, Bool, ◌&&◌, ◌||◌, eqb, leb, ltb, Err, Ok}
use Rattle.std.specs.Prelude.{if◌then◌else◌}
use Rattle.refusals.specs.declared.Refusal.TheVariants.{OutOfTurn}
use Rattle.refusals.specs.Refusals.{number_of}
use Rattle.refusals.specs.Result.{Result}
use Rattle.string_set.specs.Readers.{longest_file}
use Rattle.column_file.specs.Reading.{settings_at}
use Rattle.tie_rules.specs.Ties.{rule_number}
use Rattle.column_writer.specs.declared.stages.Stage.{Stage}
use Rattle.column_writer.specs.declared.stages.Stage.TheVariants.{AwaitsSettings, AwaitsColumns, AwaitsFinish, Finished}
use Rattle.column_writer.specs.declared.writer.Writer.{Writer}

-- the numbers below are those of refusals
abbrev pub first_writer : ℕ
first_writer = 256

-- more columns than a count of two bytes announces
abbrev pub most_columns : ℕ
most_columns = 65536

-- how many columns are to come
abbrev pub columns_to_come : Stage → ℕ
columns_to_come AwaitsSettings = 0
columns_to_come (AwaitsColumns g left) = left
columns_to_come AwaitsFinish = 0
columns_to_come Finished = 0

-- three stages, and two rules, 256 rates on either side and 65,536 numbers of columns to come
abbrev pub stage_codes : ℕ
stage_codes = 8589934595

-- the number of a stage, below all these
unfoldable pub stage_code : Stage → ℕ
stage_code AwaitsSettings = 0
stage_code AwaitsFinish = 1
stage_code Finished = 2
stage_code (AwaitsColumns g left) =
    3 + rule_number g.tie_rule + (2 * g.error_rate_pre_umi.0 + 512 * g.error_rate_post_umi.0) + 131072 * left

-- and the stage of such a number
unfoldable pub stage_of : ℕ → Stage
stage_of code =
    if eqb code 0 then AwaitsSettings
    else if eqb code 1 then AwaitsFinish
    else if eqb code 2 then Finished
    else AwaitsColumns (settings_at ((code - 3) / 2 % 256) ((code - 3) / 512 % 256) ((code - 3) % 2)) ((code - 3) / 131072)

-- a writer of at most 65,536 bytes and fewer than 65,536 columns to come, as every list of steps leads to
abbrev pub is_small : Writer → Bool
is_small w = leb w.written longest_file && ltb (columns_to_come w.stage) most_columns

-- the number of a writer; another than these has none, and gets that of condition 13
unfoldable pub writer_number : Writer → ℕ
writer_number w =
    if is_small w then first_writer + stage_code w.stage + stage_codes * w.written
    else number_of OutOfTurn

-- the writer of a number; 13 for a number that is no writer's
unfoldable pub writer_of : ℕ → Result Writer
writer_of n =
    if ltb n first_writer || ltb longest_file ((n - first_writer) / stage_codes) then Err OutOfTurn
    else Ok (record { stage = stage_of ((n - first_writer) % stage_codes); written = (n - first_writer) / stage_codes })
