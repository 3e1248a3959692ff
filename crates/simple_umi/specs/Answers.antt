-- What the functions reply; the buffer is `buffer_after` (umi_groups/specs/Found).
use Rattle.std.specs.Prelude.{ℕ, List, length, Err, Ok}
use Rattle.refusals.specs.Result.{Result, and_then}
use Rattle.string_set.specs.StringSet.{read_set}
use Rattle.umi_groups.specs.Found.{Found, room_for}
use Rattle.simple_consensus.specs.declared.caller.SimpleConsensusCaller.{SimpleConsensusCaller}
use Rattle.simple_consensus.specs.Consensus.{with_builder, consensus_of}
use Rattle.simple_umi.specs.declared.umi_caller.FlaggedConsensus.{FlaggedConsensus}
use Rattle.simple_umi.specs.declared.umi_caller.DuplexConsensus.{DuplexConsensus}
use Rattle.simple_umi.specs.Duplex.{FoundDuplex, duplex_of}

-- ---- of a set's bytes and a buffer

unfoldable pub consensus_in : SimpleConsensusCaller → List ℕ → List ℕ → Result Found
consensus_in c set out = and_then (and_then (read_set set) (consensus_of c)) (room_for out)

-- room for what two strands give
abbrev pub room_for_both : List ℕ → FoundDuplex → Result FoundDuplex
room_for_both out d = and_then (room_for out d.found) (λ f. Ok d)

unfoldable pub duplex_in : SimpleConsensusCaller → List ℕ → List ℕ → Result FoundDuplex
duplex_in c set out = and_then (and_then (read_set set) (duplex_of c)) (room_for_both out)

-- ---- the replies to a call that is not refused: the caller afterwards, the length of the string and the flags

abbrev pub flagged_consensus_of : SimpleConsensusCaller → Found → FlaggedConsensus
flagged_consensus_of c f =
    record {
      caller = record { caller = with_builder f.builder c };
      length = length f.text;
      had_errors = f.had_errors;
    }

-- of `consensus_duplex`, with both flags
abbrev pub duplex_consensus_of : SimpleConsensusCaller → FoundDuplex → DuplexConsensus
duplex_consensus_of c d =
    record {
      caller = record { caller = with_builder d.found.builder c };
      length = length d.found.text;
      had_errors_a = d.found.had_errors;
      had_errors_b = d.had_errors_b;
    }

-- what both strands give but /B's flag
abbrev pub pair_found : Result FoundDuplex → Result Found
pair_found (Err r) = Err r
pair_found (Ok d) = Ok d.found
