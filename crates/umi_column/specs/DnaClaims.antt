-- Which bytes count as DNA, in claims that are computed.
use Rattle.std.specs.List.{list_any}
use Rattle.std.specs.Prelude.{ℕ, Bool, List, [], ◌∷◌, eqb}
use Rattle.std.specs.Bool.{beq}
use Rattle.words.specs.Claims.{every_from}
use Rattle.umi_column.specs.Dna.{is_dna_base}

-- ACGTN and acgtn
abbrev pub dna_letters : List ℕ
dna_letters = 65 ∷ 67 ∷ 71 ∷ 84 ∷ 78 ∷ 97 ∷ 99 ∷ 103 ∷ 116 ∷ 110 ∷ []

-- one of the ten
unfoldable pub is_dna_letter : ℕ → Bool
is_dna_letter x = list_any (λ b. eqb x b) dna_letters

-- a byte counts as DNA exactly where it is one of the ten
unfoldable pub dna_at : ℕ → Bool
dna_at x = beq (is_dna_base x) (is_dna_letter x)

-- so it is at each of the 256 bytes
abbrev pub dna_claims : Bool
dna_claims = every_from dna_at 0 256
