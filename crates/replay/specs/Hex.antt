-- The number that hex digits write.
use Rattle.std.specs.Prelude.{ℕ, ◌+◌, ◌-◌, ◌*◌, List, [], ◌∷◌, length, nat_lt, Option, Some, None, option_and_then}
use Rattle.std.specs.Prelude.{if◌then◌else◌}

-- the value of a digit, and none for any other byte: 48 to 57 are 0 to 9, and 97 to 102 are a to f
unfoldable pub digit_of : ℕ → Option ℕ
digit_of b =
    if nat_lt b 48 then None
    else if nat_lt b 58 then Some (b - 48)
    else if nat_lt b 97 then None
    else if nat_lt b 103 then Some (b - 97 + 10)
    else None

-- the number that digits write which go on after those of n
unfoldable pub hex_from : ℕ → List ℕ → Option ℕ
hex_from n [] = Some n
hex_from n (b ∷ digits) = option_and_then (λ d. hex_from (16 * n + d) digits) (digit_of b)

-- the number that digits write, of which 64 bits have 16
abbrev pub hex_of : List ℕ → Option ℕ
hex_of digits =
    if nat_lt 16 (length digits) then None
    else hex_from 0 digits
