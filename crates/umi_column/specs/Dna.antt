-- Which bytes count as DNA.
use Rattle.std.specs.List.{list_any}
use Rattle.std.specs.Prelude.{ℕ, ◌-◌, Bool, ◌&&◌, List, [], ◌∷◌, leb, eqb}
use Rattle.std.specs.Prelude.{if◌then◌else◌}

-- A, C, G, T and N: the source's DNA_BASES
abbrev pub dna_bases : List ℕ
dna_bases = 65 ∷ 67 ∷ 71 ∷ 84 ∷ 78 ∷ []

-- a to z in upper case, and any other byte as it is
unfoldable pub to_ascii_uppercase : ℕ → ℕ
to_ascii_uppercase x =
    if leb 97 x && leb x 122 then x - 32
    else x

-- one of them, in either case
unfoldable pub is_dna_base : ℕ → Bool
is_dna_base x = list_any (λ b. eqb (to_ascii_uppercase x) b) dna_bases
