-- A line of a builder: whether its report is what the script writes that is run from the builder.
use Rattle.std.specs.Prelude.{ℕ, Bool, ◌&&◌, List, length, take, drop, ◌==◌, slice_index, Option, Some, None, option_and_then}
use Rattle.std.specs.Str.{bytes_eq}
use Rattle.std.specs.Prelude.{if◌then◌else◌}
use Rattle.export_reports.specs.State.{builder_script_bytes}
use Rattle.replay.specs.Fields.{field_bytes}

-- the fields of a line: 3 bytes of pre rate, post rate and rule; 80 of the builder's state; 48 of the script; 91 of the report
abbrev pub rates_in : List ℕ → Option (List ℕ)
rates_in line = field_bytes (take 7 (drop 1 line))

abbrev pub state_in : List ℕ → Option (List ℕ)
state_in line = field_bytes (take 161 (drop 8 line))

abbrev pub script_in : List ℕ → Option (List ℕ)
script_in line = field_bytes (take 97 (drop 169 line))

abbrev pub report_in : List ℕ → Option (List ℕ)
report_in line = field_bytes (take 183 (drop 266 line))

-- the form of a line: a letter, the fields, a newline
abbrev pub is_builder_line : List ℕ → Bool
is_builder_line line = length line == 450 && slice_index line 449 == 10

-- of what the script writes and the line's report; a script that writes none, or more than one, gives no answer
abbrev pub is_report : List ℕ → List ℕ → Option Bool
is_report written report =
    if length written == 91 then Some (bytes_eq written report)
    else None

-- what the script writes that is run from a builder, at pre rate, post rate and rule
abbrev pub ours_of : List ℕ → List ℕ → List ℕ → List ℕ
ours_of rates state script = builder_script_bytes (slice_index rates 0) (slice_index rates 1) (slice_index rates 2) state script

-- of a line of a builder
unfoldable pub builder_line : List ℕ → Option Bool
builder_line line =
    if is_builder_line line then
    option_and_then (λ rates. option_and_then (λ state. option_and_then (λ script. option_and_then (is_report (ours_of rates state script)) (report_in line)) (script_in line)) (state_in line)) (rates_in line)
    else None
