-- The search in a table of thresholds.
use Rattle.std.specs.Prelude.{ℕ, zero, suc, ◌+◌, ◌-◌, ◌&&◌, List, [], ◌∷◌, leb, get_or, Float}
use Rattle.std.specs.Float.{nan}
use Rattle.std.specs.Float.Ieee.{le}
use Rattle.std.specs.Prelude.{if◌then◌else◌}

-- the entry of a level
abbrev pub entry : List Float → ℕ → Float
entry xs q = get_or xs q nan

-- one step: s entries further on, where the table has that many and the last of them is at or below the gap
unfoldable pub advanced : List Float → Float → ℕ → ℕ → ℕ
advanced thresholds gap p s =
    if leb (p + s) 94 && le (entry thresholds (p + s - 1)) gap then p + s
    else p

-- steps of these lengths, one after the other
unfoldable pub searched : List Float → Float → ℕ → List ℕ → ℕ
searched thresholds gap p [] = p
searched thresholds gap p (s ∷ ss) = searched thresholds gap (advanced thresholds gap p s) ss

-- how many entries, from the first on, the search takes to be at or below the gap
unfoldable pub partition_point : List Float → Float → ℕ
partition_point thresholds gap = searched thresholds gap 0 (64 ∷ 32 ∷ 16 ∷ 8 ∷ 4 ∷ 2 ∷ 1 ∷ [])

-- how many of the first n entries are at or below the gap
unfoldable pub at_or_below : List Float → Float → ℕ → ℕ
at_or_below thresholds gap zero = 0
at_or_below thresholds gap (suc n) =
    if le (entry thresholds n) gap then at_or_below thresholds gap n + 1
    else at_or_below thresholds gap n
