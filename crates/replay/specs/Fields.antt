-- A field of bytes: a space, and two digits for each byte.
use Rattle.std.specs.Prelude.{ℕ, ◌+◌, ◌*◌, List, [], ◌∷◌, drop, ◌==◌, slice_index, Option, Some, None, option_and_then, option_map}
use Rattle.std.specs.Prelude.{if◌then◌else◌}
use Rattle.replay.specs.Hex.{digit_of}

-- a byte of two digits, the high digit first
abbrev pub byte_of_digits : ℕ → ℕ → Option ℕ
byte_of_digits high low = option_and_then (λ h. option_map (λ l. 16 * h + l) (digit_of low)) (digit_of high)

-- the bytes of digits, where all of them are digits
unfoldable pub bytes_of_digits : List ℕ → Option (List ℕ)
bytes_of_digits [] = Some []
bytes_of_digits (high ∷ []) = None
bytes_of_digits (high ∷ low ∷ digits) = option_and_then (λ b. option_map (λ bs. b ∷ bs) (bytes_of_digits digits)) (byte_of_digits high low)

-- of a field: a space, then digits
unfoldable pub field_bytes : List ℕ → Option (List ℕ)
field_bytes field =
    if slice_index field 0 == 32 then bytes_of_digits (drop 1 field)
    else None
