-- Where the strings of a set lie; `placed` (string_set/proofs/Placed) joins it to `read_set`.
use Rattle.std.specs.Prelude.{List, [], ◌∷◌, ◌++◌, ℕ, ◌+◌, length, drop, Ok, Err}
use Rattle.refusals.specs.Result.{Result}

-- the place of each string's length byte, where the first one is at a place: a string's bytes follow its length byte, and then comes the next
abbrev pub places_from : ℕ → List (List ℕ) → List ℕ
places_from at [] = []
places_from at (t ∷ l) = at ∷ places_from (at + 1 + length t) l

-- what borrowed places hold afterwards: those of the strings of a set, whose count byte is at 0, and then what was there, or, where the set is refused, what was there
abbrev pub places_after : Result (List (List ℕ)) → List ℕ → List ℕ
places_after (Err r) ps = ps
places_after (Ok l) ps = places_from 1 l ++ drop (length l) ps
