-- What a column file says, or the number by which it is refused.
use Rattle.std.specs.Prelude.{ℕ, ◌&&◌, List, leb, eqb, length, Err, Ok}
use Rattle.std.specs.Prelude.{if◌then◌else◌}
use Rattle.words.specs.Lists.{byte_at}
use Rattle.refusals.specs.declared.Refusal.TheVariants.{BadSettings, AbsentQuality}
use Rattle.refusals.specs.Result.{Result, and_then, judged, first_refused, Verdict}
use Rattle.tie_rules.specs.Ties.{rule_of}
use Rattle.string_set.specs.Readers.{lone}
use Rattle.column_file.specs.declared.settings.Settings.{Settings}
use Rattle.column_file.specs.Format.{Observation, column, announced, Sections, sections}

-- the settings of three bytes: pre rate, post rate, tie rule
abbrev pub settings_at : ℕ → ℕ → ℕ → Settings
settings_at pre post rule =
    record { error_rate_pre_umi = record { 0 = pre }; error_rate_post_umi = record { 0 = post }; tie_rule = rule_of rule }

-- 3: other than three bytes, or a tie rule above 1
unfoldable pub settings_of : List ℕ → Result Settings
settings_of bs =
    if eqb (length bs) 3 && leb (byte_at bs 2) 1 then Ok (settings_at (byte_at bs 0) (byte_at bs 1) (byte_at bs 2))
    else Err BadSettings

-- 4: a quality of 255, beside any base
unfoldable pub observation_verdict : Observation → Verdict
observation_verdict o =
    if eqb o.quality 255 then Err AbsentQuality
    else Ok tt

-- the first faulty observation of a column decides
unfoldable pub column_verdict : List Observation → Verdict
column_verdict c = first_refused observation_verdict c

-- and of the columns the first faulty one
unfoldable pub columns_verdict : List (List Observation) → Verdict
columns_verdict cs = first_refused column_verdict cs

-- what a file says
pub record File : Type 0 where
  pub settings : Settings
  pub columns : List (List Observation)
  pub strings : List (List ℕ)

-- 3 comes before 4
unfoldable pub file_of : Sections → Result File
file_of f =
    and_then (settings_of f.settings)
    (λ g. judged (columns_verdict f.columns) (record { settings = g; columns = f.columns; strings = f.strings }))

-- of a file's bytes: 1 and 2, then 3, then 4
unfoldable pub read_file : List ℕ → Result File
read_file s = and_then (lone sections s) file_of

-- ---- of a part's bytes: 1 and 2, then 3 or 4

-- the settings with the number of columns
unfoldable pub read_settings : List ℕ → Result (Settings × ℕ)
read_settings s = and_then (lone announced s) (λ a. and_then (settings_of a.0) (λ g. Ok (g, a.1)))

-- one column
unfoldable pub read_column : List ℕ → Result (List Observation)
read_column s = and_then (lone column s) (λ c. judged (column_verdict c) c)
