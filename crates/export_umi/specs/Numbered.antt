-- The functions by number at the defaults.
use Rattle.std.specs.Prelude.{ℕ, false, List, eqb}
use Rattle.std.specs.Prelude.{if◌then◌else◌}
use Rattle.std.specs.Option.{option_map_or}
use Rattle.refusals.specs.Result.{map_ok}
use Rattle.simple_consensus.specs.Consensus.{default_caller}
use Rattle.simple_consensus.specs.Answers.{consensus_umis_in}
use Rattle.umi_groups.specs.Found.{buffer_after}
use Rattle.export_umi.specs.Codes.{code_of}
use Rattle.export_umi.specs.Asked.{question_of, asked_found, given_of, code_by}

-- 0 call_consensus, 1 consensus, 2 consensus_umis, 3 consensus_duplex; 0 for another number
unfoldable pub umi_reply : ℕ → List ℕ → List ℕ → ℕ
umi_reply which set out =
    if eqb which 2 then code_of (map_ok (λ f. given_of f false false) (consensus_umis_in set out))
    else option_map_or (λ q. code_by q default_caller set out) (question_of which) 0

-- and what the buffer holds afterwards
unfoldable pub umi_buffer : ℕ → List ℕ → List ℕ → List ℕ
umi_buffer which set out =
    if eqb which 2 then buffer_after out (consensus_umis_in set out)
    else option_map_or (λ q. buffer_after out (asked_found q default_caller set out)) (question_of which) out
