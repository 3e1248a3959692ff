-- What the functions reply, and what the caller is afterwards; the borrowed buffer's `buffer_after` is in umi_groups/specs/Found.
use Rattle.std.specs.Prelude.{ℕ, List, length, Err, Ok}
use Rattle.refusals.specs.Result.{Result, and_then}
use Rattle.string_set.specs.StringSet.{read_set}
use Rattle.umi_groups.specs.Found.{Found, room_for}
use Rattle.simple_consensus.specs.declared.caller.SimpleConsensusCaller.{SimpleConsensusCaller}
use Rattle.simple_consensus.specs.declared.caller.Consensus.{Consensus}
use Rattle.simple_consensus.specs.declared.group.GroupConsensus.{GroupConsensus}
use Rattle.simple_consensus.specs.Consensus.{with_builder, default_caller, call_consensus_of, umis_of}

-- ---- of a set's bytes and a buffer

unfoldable pub call_consensus_in : SimpleConsensusCaller → List ℕ → List ℕ → Result Found
call_consensus_in c set out = and_then (and_then (read_set set) (call_consensus_of c)) (room_for out)

unfoldable pub consensus_umis_in : List ℕ → List ℕ → Result Found
consensus_umis_in set out = and_then (and_then (read_set set) (umis_of default_caller)) (room_for out)

-- ---- the reply to a call that is not refused: the caller afterwards, and the length of the string

abbrev pub length_of_found : Found → ℕ
length_of_found f = length f.text

abbrev pub consensus_of_found : SimpleConsensusCaller → Found → Consensus
consensus_of_found c f = record { caller = with_builder f.builder c; length = length f.text }

-- with the flag
abbrev pub group_consensus_of : SimpleConsensusCaller → Found → GroupConsensus
group_consensus_of c f = record { caller = with_builder f.builder c; length = length f.text; had_errors = f.had_errors }

-- ---- afterwards: a refusal leaves the caller as it was

abbrev pub caller_after : SimpleConsensusCaller → Result Found → SimpleConsensusCaller
caller_after c (Err r) = c
caller_after c (Ok f) = with_builder f.builder c
