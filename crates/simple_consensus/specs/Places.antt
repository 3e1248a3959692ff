-- As it is run; `read_strings` (simple_consensus/proofs/Groups) joins it to `read_set`: strings by the places of their length bytes in a set.
use Rattle.std.specs.Prelude.{List, map, ℕ, ◌+◌, ◌-◌, ◌≤◌, ◌<◌, length, take, drop}
use Rattle.words.specs.Lists.{byte_at}
use Rattle.refusals.specs.Result.{Result}
use Rattle.umi_groups.specs.Found.{Found}
use Rattle.umi_groups.specs.Groups.{group_at}
use Rattle.simple_consensus.specs.declared.caller.SimpleConsensusCaller.{SimpleConsensusCaller}

-- there are at most 255 places, and a string of at least `trim` bytes is at each of them
abbrev pub Trimmed : ℕ → List ℕ → List ℕ → Type 0
Trimmed trim s ps =
    (length ps ≤ 255) × ((k : ℕ) → k < length ps → (byte_at ps k + 1 + byte_at s (byte_at ps k) ≤ length s) × (trim ≤ byte_at s (byte_at ps k)))

-- the string at a place, without its last `trim` bytes
unfoldable pub trimmed_at : ℕ → List ℕ → ℕ → List ℕ
trimmed_at trim s p = take (byte_at s p - trim) (drop (p + 1) s)

-- at each place
abbrev pub strings_at : ℕ → List ℕ → List ℕ → List (List ℕ)
strings_at trim s ps = map (trimmed_at trim s) ps

-- what the strings at these places give by a caller; `group_said` (simple_consensus/proofs/Groups) joins it to `consensus_of`
abbrev pub group_by : SimpleConsensusCaller → ℕ → List ℕ → List ℕ → Result Found
group_by c trim s ps = group_at c.error_rate_post_labeling.0 c.q_error.0 c.builder trim s ps
