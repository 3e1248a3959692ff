-- What a file says with the consensus of its strings, or the number by which it is refused.
use Rattle.std.specs.Prelude.{ℕ, List, length, replicate, Ok}
use Rattle.lent_bytes.specs.Buffer.{written}
use Rattle.refusals.specs.Result.{Result, and_then}
use Rattle.umi_groups.specs.Found.{Found}
use Rattle.simple_consensus.specs.Consensus.{default_caller, consensus_of}
use Rattle.column_file.specs.Reading.{File, read_file}
use Rattle.column_file.specs.Places.{places_of}
use Rattle.judged_file.specs.declared.JudgedFile.{JudgedFile}

-- the contents of a file, and what is found in its strings
pub record Judged : Type 0 where
  pub file : File
  pub found : Found

-- 1 to 4 by the file, then 7 to 9 by its strings, which `consensus` gets at the defaults
unfoldable pub judge_file : List ℕ → Result Judged
judge_file s = and_then (read_file s) (λ f. and_then (consensus_of default_caller f.strings) (λ u. Ok (record { file = f; found = u })))

-- where the parts are, the consensus with 0 behind it, how long it is, and its flag
abbrev pub judged_as : Judged → JudgedFile
judged_as j = record {
  places = places_of j.file;
  text = written j.found.text (replicate 255 0);
  length = length j.found.text;
  had_errors = j.found.had_errors;
}
