-- As it is run; `like_sound` (umi_verdicts/proofs/Likeness) joins it to `verdict_within`: strings that are like the first, a look that is quicker than the
-- columns.
use Rattle.std.specs.Prelude.{Bool, true, false, ◌&&◌, ◌||◌, List, [], ◌∷◌, ℕ, eqb}
use Rattle.umi_column.specs.Dna.{is_dna_base}

-- a byte that a column's first byte f lets stand: the same, or both are DNA
abbrev pub is_like : ℕ → ℕ → Bool
is_like f x = eqb f x || is_dna_base f && is_dna_base x

-- so at each place of a string
abbrev pub like_row : List ℕ → List ℕ → Bool
like_row [] [] = true
like_row [] (x ∷ xs) = false
like_row (f ∷ fs) [] = false
like_row (f ∷ fs) (x ∷ xs) = is_like f x && like_row fs xs
