-- Four lanes, one for each of A, C, G and T, in this order.
use Rattle.std.specs.Prelude.{ℕ, ◌-◌, ◌/◌, ◌%◌, Bool, not, ◌||◌, List, [], ◌∷◌, ltb, eqb, get_or, Float}
use Rattle.std.specs.Float.{nan}
use Rattle.std.specs.Prelude.{if◌then◌else◌}

-- what f gives at the lanes 0 to 3
unfoldable pub lanes : {A : Type 0} → (ℕ → A) → List A
lanes f = f 0 ∷ f 1 ∷ f 2 ∷ f 3 ∷ []

-- what lane i holds
abbrev pub lane : List Float → ℕ → Float
lane xs i = get_or xs i nan

-- how often its base was counted
abbrev pub counted : List ℕ → ℕ → ℕ
counted ns i = get_or ns i 0

-- the number that says that there is no lane
abbrev pub no_lane : ℕ
no_lane = 4

-- the lane of a byte: ACGTacgt, and none for any other
unfoldable pub lane_of_byte : ℕ → ℕ
lane_of_byte x =
    if eqb x 65 || eqb x 97 then 0
    else if eqb x 67 || eqb x 99 then 1
    else if eqb x 71 || eqb x 103 then 2
    else if eqb x 84 || eqb x 116 then 3
    else no_lane

-- whether it has a lane
abbrev pub is_base : ℕ → Bool
is_base x = not (eqb (lane_of_byte x) no_lane)

-- how many lanes come after that of the base with two bits of a byte: these are 0, 1, 3 and 2 in A, C, G and T of either case
unfoldable pub lanes_after : ℕ → ℕ
lanes_after x =
    let bits = x / 2 % 4 in
    if ltb bits 2 then 3 - bits
    else bits - 2

-- the base of a lane, and N for no lane
unfoldable pub base_of : ℕ → ℕ
base_of i = get_or (65 ∷ 67 ∷ 71 ∷ 84 ∷ []) i 78
