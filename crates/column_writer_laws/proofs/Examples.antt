-- The examples, each by one computed statement. Assumes nothing.
use Rattle.std.specs.List.{list_all}
use lib.Dec.{T}
use Rattle.lent_bytes.specs.Buffer.{written_at}
use Rattle.string_set.specs.Readers.{byte, word, front, many}
use Rattle.string_set.specs.StringSet.{string, string_set, read_set}
use Rattle.column_file.specs.Format.{observation, column, settings, announced}
use Rattle.column_file.specs.Reading.{settings_of, observation_verdict, column_verdict, read_settings, read_column}
use Rattle.column_writer.specs.Stages.{after_settings, after_column, after_strings}
use Rattle.column_writer.specs.Writing.{room_for_part, put_in, finish_of}
use Rattle.column_writer_laws.specs.Examples.{cases, case_holds, sample_steps, mixed_steps, sample_written, sample_numbers}

-- each case has its number
pub each_case : T (list_all case_holds cases)
unfolding byte word front many string string_set observation column settings announced settings_of observation_verdict column_verdict
    read_settings read_column read_set after_settings after_column after_strings room_for_part put_in
each_case = tt

-- each step of the two lists has its number
pub each_step : T sample_numbers
unfolding byte word front many string string_set observation column settings announced settings_of observation_verdict column_verdict
    read_settings read_column read_set after_settings after_column after_strings room_for_part put_in finish_of written_at
each_step = tt

-- both lists give the sample
pub sample_written_lem : T (sample_written sample_steps)
unfolding byte word front many string string_set observation column settings announced settings_of observation_verdict column_verdict
    read_settings read_column read_set after_settings after_column after_strings room_for_part put_in finish_of written_at
sample_written_lem = tt

pub sample_among_others : T (sample_written mixed_steps)
unfolding byte word front many string string_set observation column settings announced settings_of observation_verdict column_verdict
    read_settings read_column read_set after_settings after_column after_strings room_for_part put_in finish_of written_at
sample_among_others = tt
