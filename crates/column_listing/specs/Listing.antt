-- The listing of a column file, from the file's bytes to the text's bytes.
use Rattle.std.specs.Prelude.{ℕ, List, [], ◌∷◌, ◌++◌, Ok}
use Rattle.refusals.specs.Result.{Result, and_then}
use Rattle.refusal_text.specs.RefusalText.{printed}
use Rattle.umi_groups.specs.Found.{Found}
use Rattle.column_file.specs.Reading.{File}
use Rattle.judged_file.specs.Judged.{judge_file}
use Rattle.listing_lines.specs.Lines.{header, column_lines, umi_line, text_of}

-- all lines of a file
unfoldable pub lines_of : File → Found → List (List ℕ)
lines_of f u = header ∷ column_lines 1 f.settings f.columns ++ (umi_line u.text u.had_errors ∷ [])

-- the listing's text, or the number by which the file is refused
unfoldable pub listed_file : List ℕ → Result (List ℕ)
listed_file s = and_then (judge_file s) (λ j. Ok (text_of (lines_of j.file j.found)))

-- what the program prints for a file
unfoldable pub listing_of : List ℕ → List ℕ
listing_of s = printed (listed_file s)
