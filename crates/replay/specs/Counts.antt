-- How many answers were read, and how many of them are equal, by the letters of their lines.
use Rattle.std.specs.Prelude.{ℕ, ◌+◌, ◌%◌, ◌^◌, List, slice_set}
use Rattle.std.specs.Prelude.{slice_index_or}
use Rattle.replay.specs.declared.counts.Count.{Count}
use Rattle.replay.specs.declared.lines.LineVerdict.{LineVerdict}
use Rattle.replay.specs.declared.lines.LineVerdict.TheVariants.{End, Equal, Differs, NotAnAnswer}

-- a counter has 64 bits
abbrev pub one_more : ℕ → ℕ
one_more n = (n + 1) % 2 ^ 64

-- one more answer, which is equal or not
abbrev pub with_equal : Count → Count
with_equal c = record { all = one_more c.all; equal = one_more c.equal }

abbrev pub with_different : Count → Count
with_different c = record c { all = one_more c.all }

-- those of a letter
abbrev pub count_at : List Count → ℕ → Count
count_at counts letter = slice_index_or counts letter (record { all = 0; equal = 0 })

-- what the verdict on a line adds
abbrev pub counted_of : List Count → LineVerdict → List Count
counted_of counts End = counts
counted_of counts NotAnAnswer = counts
counted_of counts (Equal letter) = slice_set counts letter (with_equal (count_at counts letter))
counted_of counts (Differs letter) = slice_set counts letter (with_different (count_at counts letter))
