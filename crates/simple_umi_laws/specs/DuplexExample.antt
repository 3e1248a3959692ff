-- An example of two strands: /A, AC/B, AC/B and AG/B.
use Rattle.std.specs.Prelude.{◌≡◌, Bool, true, false, Ok, List, [], ◌∷◌, ℕ, ◌≤◌, length, drop}
use Rattle.refusals.specs.Result.{map_ok}
use Rattle.simple_umi.specs.declared.umi_caller.DuplexConsensus.{DuplexConsensus}
use Rattle.simple_consensus.specs.Consensus.{default_caller}
use Rattle.simple_umi.specs.Answers.{duplex_in, duplex_consensus_of, pair_found}
use Rattle.umi_groups.specs.Found.{buffer_after}

-- the four strings in their file form
abbrev pub example_set : List ℕ
example_set =
    4
    ∷ 2 ∷ 47 ∷ 65
    ∷ 4 ∷ 65 ∷ 67 ∷ 47 ∷ 66
    ∷ 4 ∷ 65 ∷ 67 ∷ 47 ∷ 66
    ∷ 4 ∷ 65 ∷ 71 ∷ 47 ∷ 66
    ∷ []

-- what an answer says beside the caller
abbrev pub length_and_flags : DuplexConsensus → ℕ × Bool × Bool
length_and_flags d = (d.length, d.had_errors_a, d.had_errors_b)

-- at the defaults, into a buffer of two bytes or more: AC, no error in /A, one in /B
pub record Example (out : List ℕ) : Type 0 where
  pub answer : 2 ≤ length out → map_ok length_and_flags (map_ok (duplex_consensus_of default_caller) (duplex_in default_caller example_set out)) ≡ Ok (2, false, true)
  pub text : 2 ≤ length out → buffer_after out (pair_found (duplex_in default_caller example_set out)) ≡ 65 ∷ 67 ∷ drop 2 out
