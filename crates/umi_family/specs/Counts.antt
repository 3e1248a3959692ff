-- As it is run; `named_by_counts` (umi_count_laws/proofs/Named) joins it to the lane that the rule names: how many of the strings have a base at each place.
use Rattle.std.specs.Prelude.{◌≡◌, ◌||◌, List, [], ◌∷◌, ◌≢◌, ℕ, ◌+◌, ◌≤◌, ◌<◌, eqb, length, get_or}
use Rattle.std.specs.Prelude.{if◌then◌else◌}
use Rattle.words.specs.Lists.{byte_at}
use Rattle.tie_rules.specs.Lanes.{lane_of_byte}
use Rattle.umi_count_laws.specs.Counts.{times_observed}
use Rattle.umi_rows.specs.Rows.{bytes_at}
use Rattle.umi_family.specs.declared.counts.Counts.{Counts}

-- 1 for either letter, and 0 for any other byte
abbrev pub hit_by : ℕ → ℕ → ℕ → ℕ
hit_by upper lower x =
    if eqb x upper || eqb x lower then 1
    else 0

-- 1 for a byte of lane i, and 0 for any other
abbrev pub one_in : ℕ → ℕ → ℕ
one_in i x =
    if eqb (lane_of_byte x) i then 1
    else 0

-- those of lane i
abbrev pub lane_counts : Counts → ℕ → List ℕ
lane_counts counts i = get_or (counts.a ∷ counts.c ∷ counts.g ∷ counts.t ∷ []) i []

-- one more can be counted at each of w places
abbrev pub CountsRoom : ℕ → List ℕ → Type 0
CountsRoom w counts = (w ≤ length counts) × ((k : ℕ) → k < w → byte_at counts k < 255)

-- at each place of a string that has a byte of lane i one more is counted
abbrev pub Counted : ℕ → List ℕ → List ℕ → List ℕ → Type 0
Counted i row before after =
    (length after ≡ length before) × ((k : ℕ) → k < length row → byte_at after k ≡ byte_at before k + one_in i (byte_at row k))

-- at each of w places the bytes of lane i in the column there
abbrev pub CountsOf : ℕ → ℕ → List ℕ → List ℕ → List ℕ → Type 0
CountsOf i w s ps counts = (k : ℕ) → k < w → byte_at counts k ≡ times_observed i (bytes_at k s ps)

-- of four counts that of lane i is above each other
abbrev pub Above : List ℕ → ℕ → Type 0
Above counts i = (j : ℕ) → j < 4 → j ≢ i → get_or counts j 0 < get_or counts i 0
