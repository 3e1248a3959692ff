-- Whose turn it is: the settings, the announced columns, the string set, the finish; and what comes after a part.
use Rattle.std.specs.Prelude.{ℕ, ◌-◌, Bool, true, false, List, eqb, ltb, Ok}
use Rattle.refusals.specs.Result.{Result, and_then}
use Rattle.string_set.specs.StringSet.{read_set}
use Rattle.column_file.specs.Reading.{read_settings, read_column}
use Rattle.column_writer.specs.declared.stages.Stage.{Stage}
use Rattle.column_writer.specs.declared.stages.Stage.TheVariants.{AwaitsSettings, AwaitsColumns, AwaitsFinish, Finished}
use Rattle.column_writer.specs.declared.stages.PartKind.{PartKind}
use Rattle.column_writer.specs.declared.stages.PartKind.TheVariants.{Settings as settings, Column as column, Strings as strings}

-- ---- 13: where one of these is false, the step is refused

-- each stage has one part that comes next, but for the last two, which have none
abbrev pub in_turn : Stage → PartKind → Bool
in_turn AwaitsSettings settings = true
in_turn AwaitsSettings column = false
in_turn AwaitsSettings strings = false
in_turn (AwaitsColumns g left) settings = false
in_turn (AwaitsColumns g left) column = ltb 0 left
in_turn (AwaitsColumns g left) strings = eqb left 0
in_turn AwaitsFinish kind = false
in_turn Finished kind = false

-- the finish comes once, after the string set
abbrev pub awaits_finish : Stage → Bool
awaits_finish AwaitsSettings = false
awaits_finish (AwaitsColumns g left) = false
awaits_finish AwaitsFinish = true
awaits_finish Finished = false

-- ---- the stage after a part, which the reader's own definitions judge: 2, then 3 or 4

-- as many columns as the settings announce
unfoldable pub after_settings : List ℕ → Result Stage
after_settings part = and_then (read_settings part) (λ a. Ok (AwaitsColumns a.0 a.1))

-- one less to come
abbrev pub one_column_less : Stage → Stage
one_column_less AwaitsSettings = AwaitsSettings
one_column_less (AwaitsColumns g left) = AwaitsColumns g (left - 1)
one_column_less AwaitsFinish = AwaitsFinish
one_column_less Finished = Finished

-- so after a column
unfoldable pub after_column : Stage → List ℕ → Result Stage
after_column stage part = and_then (read_column part) (λ c. Ok (one_column_less stage))

-- after the strings the finish
unfoldable pub after_strings : List ℕ → Result Stage
after_strings part = and_then (read_set part) (λ l. Ok AwaitsFinish)

-- by the kind of part
abbrev pub next_stage : Stage → PartKind → List ℕ → Result Stage
next_stage stage settings part = after_settings part
next_stage stage column part = after_column stage part
next_stage stage strings part = after_strings part
