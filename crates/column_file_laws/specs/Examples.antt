-- The small inputs of conditions 1 to 4 (SCOPE 7), others beside them, and files about as long as one may be.
use Rattle.std.specs.Prelude.{ℕ, Bool, List, [], ◌∷◌, ◌++◌, eqb, replicate}
use Rattle.refusals.specs.Refusals.{number_in}
use Rattle.column_file.specs.Reading.{read_file}

-- the settings and one column of 32,763 observations: 65,534 bytes
abbrev pub long : List ℕ
long = 3 ∷ 90 ∷ 90 ∷ 0 ∷ 1 ∷ 0 ∷ 251 ∷ 127 ∷ replicate 65526 20

-- each input with its number, 0 where it is accepted
abbrev pub inputs : List (List ℕ × ℕ)
inputs =
    -- those of SCOPE 7
    (replicate 65537 0, 1)
    ∷ (3 ∷ 90 ∷ [], 2)
    ∷ (3 ∷ 90 ∷ 90 ∷ 2 ∷ 0 ∷ 0 ∷ 0 ∷ [], 3)
    ∷ (3 ∷ 90 ∷ 90 ∷ 0 ∷ 1 ∷ 0 ∷ 1 ∷ 0 ∷ 65 ∷ 255 ∷ 0 ∷ [], 4)
    ∷ (3 ∷ 90 ∷ 90 ∷ 0 ∷ 2 ∷ 0 ∷ 0 ∷ 0 ∷ 3 ∷ 0 ∷ 65 ∷ 20 ∷ 67 ∷ 20 ∷ 78 ∷ 20 ∷ 2 ∷ 2 ∷ 65 ∷ 67 ∷ 2 ∷ 65 ∷ 71 ∷ [], 0)
    -- the same column with no string, with one and with two empty strings: 65,535, 65,536 and 65,537 bytes
    ∷ (long ++ (0 ∷ []), 0)
    ∷ (long ++ (1 ∷ 0 ∷ []), 0)
    ∷ (long ++ (2 ∷ 0 ∷ 0 ∷ []), 1)
    -- 65,536 zeros, all but four of them left over
    ∷ (replicate 65536 0, 2)
    -- an empty file; no string count; half a column count; an observation cut off; a string that reaches past the end; a byte left over
    ∷ ([], 2)
    ∷ (3 ∷ 90 ∷ 90 ∷ 0 ∷ 0 ∷ 0 ∷ [], 2)
    ∷ (3 ∷ 90 ∷ 90 ∷ 0 ∷ 1 ∷ [], 2)
    ∷ (3 ∷ 90 ∷ 90 ∷ 0 ∷ 1 ∷ 0 ∷ 1 ∷ 0 ∷ 65 ∷ [], 2)
    ∷ (3 ∷ 90 ∷ 90 ∷ 0 ∷ 0 ∷ 0 ∷ 1 ∷ 2 ∷ 65 ∷ [], 2)
    ∷ (3 ∷ 90 ∷ 90 ∷ 0 ∷ 0 ∷ 0 ∷ 0 ∷ 0 ∷ [], 2)
    -- two, no and four settings, walked over
    ∷ (2 ∷ 90 ∷ 90 ∷ 0 ∷ 0 ∷ 0 ∷ [], 3)
    ∷ (0 ∷ 0 ∷ 0 ∷ 0 ∷ [], 3)
    ∷ (4 ∷ 90 ∷ 90 ∷ 0 ∷ 7 ∷ 0 ∷ 0 ∷ 0 ∷ [], 3)
    -- a quality of 255 for N, and one of 254
    ∷ (3 ∷ 90 ∷ 90 ∷ 0 ∷ 1 ∷ 0 ∷ 1 ∷ 0 ∷ 78 ∷ 255 ∷ 0 ∷ [], 4)
    ∷ (3 ∷ 90 ∷ 90 ∷ 0 ∷ 1 ∷ 0 ∷ 1 ∷ 0 ∷ 65 ∷ 254 ∷ 0 ∷ [], 0)
    -- 2 before 3, 2 before 4, 3 before 4
    ∷ (3 ∷ 90 ∷ 90 ∷ 2 ∷ 1 ∷ 0 ∷ 5 ∷ 0 ∷ [], 2)
    ∷ (3 ∷ 90 ∷ 90 ∷ 0 ∷ 1 ∷ 0 ∷ 1 ∷ 0 ∷ 65 ∷ 255 ∷ [], 2)
    ∷ (2 ∷ 90 ∷ 90 ∷ 1 ∷ 0 ∷ 1 ∷ 0 ∷ 65 ∷ 255 ∷ 0 ∷ [], 3)
    -- no columns and no strings, under the other rule
    ∷ (3 ∷ 0 ∷ 255 ∷ 1 ∷ 0 ∷ 0 ∷ 0 ∷ [], 0)
    ∷ []

-- the number that reading gives is the input's
abbrev pub holds : List ℕ × ℕ → Bool
holds i = eqb (number_in (read_file i.0)) i.1
