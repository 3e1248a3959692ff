-- A table with an entry for each of the 94 levels.
use Rattle.std.specs.Prelude.{ℕ, List, Float}
use Rattle.words.specs.Lists.{listed}

-- the entries of the levels 0 to 93
abbrev pub levels : (ℕ → Float) → List Float
levels f = listed f 0 94
