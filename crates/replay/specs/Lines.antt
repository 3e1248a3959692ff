-- What a line of the stored list says: if its result is its function's, its report its builder's, its text its file's listing, bit for bit.
use Rattle.std.specs.Prelude.{ℕ, zero, suc, ◌+◌, ◌*◌, Bool, true, false, ◌&&◌, List, [], ◌∷◌, length, take, drop, replicate, ◌==◌, slice_index, slice_set, Option, Some, None, option_and_then, option_map}
use Rattle.std.specs.Prelude.{if◌then◌else◌}
use Rattle.replay.specs.declared.functions.Function.{Function}
use Rattle.replay.specs.declared.functions.LineKind.{LineKind}
use Rattle.replay.specs.declared.functions.LineKind.TheVariants.{FunctionLine, BuilderLine, ListingLine}
use Rattle.replay.specs.declared.lines.LineVerdict.{LineVerdict}
use Rattle.replay.specs.declared.lines.LineVerdict.TheVariants.{End, Equal, Differs, NotAnAnswer}
use Rattle.replay.specs.Functions.{kind_of, arguments_of}
use Rattle.replay.specs.Hex.{hex_of}
use Rattle.replay.specs.Answers.{our_answer_of}
use Rattle.replay.specs.Builders.{builder_line}
use Rattle.replay.specs.Listings.{listing_line}

-- the number of a field: a space and 16 digits
unfoldable pub field_of : List ℕ → Option ℕ
field_of bytes =
    if slice_index bytes 0 == 32 then hex_of (drop 1 bytes)
    else None

-- where field k of a line starts, and the newline of a line that has k fields
abbrev pub field_start : ℕ → ℕ
field_start k = 17 * k + 1

-- the numbers of the first k fields of a line, before those that are read
unfoldable pub fields_from : ℕ → List ℕ → List ℕ → Option (List ℕ)
fields_from zero line ns = Some ns
fields_from (suc k) line ns = option_and_then (λ n. fields_from k line (slice_set ns k n)) (field_of (take 17 (drop (field_start k) line)))

-- the k numbers of a line in the form: a letter, a field for each number, a newline
unfoldable pub numbers_of : ℕ → List ℕ → Option (List ℕ)
numbers_of k line =
    if length line == field_start k + 1 && slice_index line (field_start k) == 10 then fields_from k line (replicate 5 0)
    else None

-- whether the last of the numbers is what the function gives for those before it
abbrev pub is_answer : Function → List ℕ → Option Bool
is_answer f numbers = option_map (λ ours. ours == slice_index numbers (arguments_of f)) (our_answer_of f numbers)

-- of a line of a function's arguments and its result
abbrev pub answer_line : Function → List ℕ → Option Bool
answer_line f line = option_and_then (is_answer f) (numbers_of (arguments_of f + 1) line)

-- whether our answer is equal to that of a line, where the line is in the form of its kind
abbrev pub equal_in : Option LineKind → List ℕ → Option Bool
equal_in (Some (FunctionLine f)) line = answer_line f line
equal_in (Some BuilderLine) line = builder_line line
equal_in (Some ListingLine) line = listing_line line
equal_in None line = None

-- of a line's letter, and whether the answers are equal
abbrev pub verdict_at : ℕ → Option Bool → LineVerdict
verdict_at letter (Some true) = Equal letter
verdict_at letter (Some false) = Differs letter
verdict_at letter None = NotAnAnswer

-- of a line, and of no bytes: they are the end of the list
unfoldable pub line_verdict_of : List ℕ → LineVerdict
line_verdict_of [] = End
line_verdict_of (letter ∷ rest) = verdict_at letter (equal_in (kind_of letter) (letter ∷ rest))
