-- Which bytes count as DNA: of all 256 the ten letters alone. Assumes nothing.
use lib.Dec.{T}
use Rattle.words.specs.Claims.{every_from}
use Rattle.umi_column.specs.Dna.{to_ascii_uppercase, is_dna_base}
use Rattle.umi_column.specs.DnaClaims.{is_dna_letter, dna_at, dna_claims}

pub dna_claims_lem : T dna_claims
unfolding every_from to_ascii_uppercase is_dna_base is_dna_letter dna_at
dna_claims_lem = tt
