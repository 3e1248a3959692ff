-- Each input has its number, in one computed statement. Assumes nothing.
use Rattle.std.specs.List.{list_all}
use lib.Dec.{T}
use Rattle.string_set.specs.Readers.{byte, word, front, many}
use Rattle.string_set.specs.StringSet.{string, string_set}
use Rattle.column_file.specs.Format.{observation, column, settings, columns, sections}
use Rattle.column_file.specs.Reading.{settings_of, observation_verdict, column_verdict, columns_verdict, file_of, read_file}
use Rattle.column_file_laws.specs.Examples.{inputs, holds}

pub examples : T (list_all holds inputs)
unfolding byte word front many string string_set observation column settings columns sections
    settings_of observation_verdict column_verdict columns_verdict file_of read_file
examples = tt
