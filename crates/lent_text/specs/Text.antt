-- Text as a list of bytes: letters, numbers, lines.
use Rattle.std.specs.Prelude.{ℕ, zero, suc, ◌+◌, ◌/◌, ◌%◌, Bool, ◌&&◌, List, [], ◌∷◌, ◌++◌, ltb, leb}
use Prim.Native.Char.{code}
use Prim.Native.String.{String, [] as none, ◌∷◌ as ◌then◌}
use Rattle.std.specs.Prelude.{if◌then◌else◌}

-- the codes of a text's letters
abbrev pub letters : String → List ℕ
letters none = []
letters (c then s) = code c ∷ letters s

abbrev pub space : ℕ
space = 32

abbrev pub newline : ℕ
newline = 10

-- 0 to 9
abbrev pub is_digit : ℕ → Bool
is_digit x = leb 48 x && leb x 57

-- the last digits of a number, at most as many as the first argument says, with no zero in front
unfoldable pub digits : ℕ → ℕ → List ℕ
digits zero n = []
digits (suc most) n =
    if ltb n 10 then (48 + n) ∷ []
    else digits most (n / 10) ++ ((48 + n % 10) ∷ [])

-- a number in decimal: it never has more digits than n + 1
unfoldable pub decimal : ℕ → List ℕ
decimal n = digits (suc n) n

-- a line: its fields, with one space between, and a newline
abbrev pub line : List (List ℕ) → List ℕ
line [] = newline ∷ []
line (f ∷ []) = f ++ (newline ∷ [])
line (f ∷ g ∷ l) = f ++ (space ∷ line (g ∷ l))
