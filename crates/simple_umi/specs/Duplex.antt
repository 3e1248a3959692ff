-- The consensus of strings of two strands, which end in /A and /B.
use Rattle.std.specs.Prelude.{ℕ, ◌-◌, Bool, List, [], ◌∷◌, map, length, take, drop, Ok, filter}
use Rattle.std.specs.Prelude.{if◌then◌else◌}
use Rattle.words.specs.Lists.{is_empty, same_bytes}
use Rattle.refusals.specs.Result.{Result, and_then}
use Rattle.umi_groups.specs.Found.{Found}
use Rattle.simple_consensus.specs.declared.caller.SimpleConsensusCaller.{SimpleConsensusCaller}
use Rattle.simple_consensus.specs.Consensus.{with_builder, consensus_of}

-- the string ends in / and the letter
unfoldable pub ends_in : ℕ → List ℕ → Bool
ends_in letter t = same_bytes (drop (length t - 2) t) (47 ∷ letter ∷ [])

-- the strings of a strand, without these two bytes
unfoldable pub strand_of : ℕ → List (List ℕ) → List (List ℕ)
strand_of letter strings = map (λ t. take (length t - 2) t) (filter (ends_in letter) strings)

-- what both strands give: the string, /A's flag and the builder afterwards, and /B's flag
pub record FoundDuplex : Type 0 where
  pub found : Found
  pub had_errors_b : Bool

-- both with this string
abbrev pub pairing : Found → Found → List ℕ → FoundDuplex
pairing a b text = record { found = record { text = text; had_errors = a.had_errors; builder = b.builder }; had_errors_b = b.had_errors }

-- /A's string, and /B's where that is empty
abbrev pub either : List ℕ → List ℕ → List ℕ
either a b =
    if is_empty a then b
    else a

unfoldable pub paired : Found → Found → FoundDuplex
paired a b = pairing a b (either a.text b.text)

-- each strand as `consensus` treats a set, /A first: a refusal of either is a refusal of the whole
unfoldable pub duplex_of : SimpleConsensusCaller → List (List ℕ) → Result FoundDuplex
duplex_of c strings =
    and_then (consensus_of c (strand_of 65 strings)) (λ a.
    and_then (consensus_of (with_builder a.builder c) (strand_of 66 strings)) (λ b. Ok (paired a b)))
