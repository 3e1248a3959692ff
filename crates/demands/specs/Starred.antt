-- The inputs of SCOPE 10.1, in one list. The two on a new builder are asked at any rate and with any tables.
use Rattle.std.specs.Prelude.{Bool, ◌&&◌, List, [], ◌∷◌, ℕ, eqb, Float}
use Rattle.std.specs.Float.{nan}
use Rattle.std.specs.Float.Ieee.{neg}
use Rattle.float.specs.Ops.{◌⊕◌, ◌⊖◌, bits, whole}
use Rattle.words.specs.Claims.{all}
use Rattle.phred.specs.Phred.{ln_zero, phred_to_ln_error_prob, ln_prob_to_phred}
use Rattle.rate_tables.specs.declared.adjusted.AdjustedProbabilityTables.{AdjustedProbabilityTables}
use Rattle.gap_tables.specs.declared.gaps.UnanimousGapTables.{UnanimousGapTables}
use Rattle.tie_rules.specs.declared.tie_rule.TieRule.TheVariants.{UlpRelative, FgbioCompat}
use Rattle.tie_rules.specs.Lanes.{base_of, counted}
use Rattle.tie_rules.specs.Ties.{unique_max_index_with}
use Rattle.base_builder.specs.declared.builder.ConsensusBaseBuilder.{ConsensusBaseBuilder}
use Rattle.base_builder.specs.Builder.{new_at}
use Rattle.base_builder.specs.Calls.{call_of}
use Rattle.base_builder.specs.History.{add, run}

-- A, C and N
abbrev pub A : ℕ
A = 65

abbrev pub C : ℕ
C = 67

abbrev pub N : ℕ
N = 78

-- N, 2, counts 0
abbrev pub is_new : UnanimousGapTables → ConsensusBaseBuilder → Bool
is_new t b =
    all
    (eqb (call_of t b).base N
    ∷ eqb (call_of t b).qual.0 2
    ∷ eqb (counted b.observations 0) 0
    ∷ eqb (counted b.observations 1) 0
    ∷ eqb (counted b.observations 2) 0
    ∷ eqb (counted b.observations 3) 0
    ∷ [])

-- the bases that FgbioCompat and UlpRelative name, N for none
abbrev pub named : List Float → ℕ → ℕ → Bool
named xs fgbio ulp = eqb (base_of (unique_max_index_with xs FgbioCompat)) fgbio && eqb (base_of (unique_max_index_with xs UlpRelative)) ulp

-- -n
abbrev pub minus : ℕ → Float
minus n = neg (whole n)

-- 2^-53 = 1.1102230246251565e-16, 2^-43 = 1.1368683772161603e-13, 2^-10 = 0.0009765625
abbrev pub p53 : Float
p53 = bits 0x3ca0_0000_0000_0000

abbrev pub p43 : Float
p43 = bits 0x3d40_0000_0000_0000

abbrev pub p10 : Float
p10 = bits 0x3f50_0000_0000_0000

-- In turn: a new builder, also after N and "-"; the level of NaN, of -infinity, of the logarithms of 30 and of 94; six sets of lanes.
abbrev pub claims : ℕ → AdjustedProbabilityTables → UnanimousGapTables → List Bool
claims pre adjusted gaps =
    is_new gaps (new_at pre)
    ∷ is_new gaps (run adjusted (add 78 30 ∷ add 45 30 ∷ []) (new_at pre))
    ∷ eqb (ln_prob_to_phred nan) 2
    ∷ eqb (ln_prob_to_phred ln_zero) 93
    ∷ eqb (ln_prob_to_phred (phred_to_ln_error_prob 30)) 30
    ∷ eqb (ln_prob_to_phred (phred_to_ln_error_prob 94)) 93
    ∷ named (minus 1 ∷ (minus 1 ⊕ p53) ∷ minus 9 ∷ minus 9 ∷ []) C N
    ∷ named ((minus 1 ⊕ p53) ∷ minus 1 ∷ minus 9 ∷ minus 9 ∷ []) N N
    ∷ named (minus 500 ∷ (minus 500 ⊖ p43) ∷ minus 600 ∷ minus 600 ∷ []) A N
    ∷ named (neg p10 ∷ (neg p10 ⊖ p53) ∷ minus 9 ∷ minus 9 ∷ []) N A
    ∷ named (nan ∷ minus 3 ∷ minus 4 ∷ minus 5 ∷ []) C C
    ∷ named (ln_zero ∷ ln_zero ∷ ln_zero ∷ ln_zero ∷ []) N N
    ∷ []

-- all of them, in one test
abbrev pub all_starred : ℕ → AdjustedProbabilityTables → UnanimousGapTables → Bool
all_starred pre adjusted gaps = all (claims pre adjusted gaps)
