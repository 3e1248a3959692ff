-- What a room holds of a stream, and of a text.
use Rattle.std.specs.Prelude.{◌≡◌, List, ◌++◌, ℕ, length, take, drop}

-- the first n bytes of a room are all that it can hold of a stream: the whole stream, unless they fill it
abbrev pub FrontOf : List ℕ → ℕ → List ℕ → Type 0
FrontOf stream n room = take (length room) stream ≡ take n room

-- a text at the front of a room, and then what was there
abbrev pub onto : List ℕ → List ℕ → List ℕ
onto text room = text ++ drop (length text) room
