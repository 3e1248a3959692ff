-- As it is run; `group_said` (simple_consensus/proofs/Groups) joins it to `consensus_of`: strings by the places of their length bytes in a set, without their last `trim` bytes.
use Rattle.std.specs.List.{list_all, list_any}
use Rattle.std.specs.Prelude.{Bool, false, not, ◌&&◌, List, [], ℕ, ◌+◌, ◌-◌, ltb, eqb, length, take, drop, Err, Ok}
use Rattle.std.specs.Prelude.{if◌then◌else◌}
use Rattle.words.specs.Lists.{byte_at, is_empty}
use Rattle.refusals.specs.declared.Refusal.TheVariants.{CutOff}
use Rattle.refusals.specs.Result.{Result, judged}
use Rattle.rate_tables.specs.declared.adjusted.AdjustedEntry.{AdjustedEntry}
use Rattle.rate_tables.specs.Adjusted.{adjusted_tables, entry_at as table_entry}
use Rattle.base_builder.specs.declared.builder.ConsensusBaseBuilder.{ConsensusBaseBuilder}
use Rattle.umi_rows.specs.Rows.{fitting, rows_at, row_columns_at, differs_from}
use Rattle.umi_verdicts.specs.FamilyVerdicts.{verdict_at}
use Rattle.umi_family.specs.Family.{bytes_by, last_by}
use Rattle.umi_groups.specs.Found.{Found, found_by}

-- the length bytes are all like the first
abbrev pub lengths_alike : List ℕ → List ℕ → Bool
lengths_alike s ps = list_all (λ p. eqb (byte_at s p) (byte_at s (byte_at ps 0))) ps

-- the two entries of a quality in the tables of a rate
abbrev pub entry_at : ℕ → ℕ → AdjustedEntry
entry_at post q = table_entry (adjusted_tables post) q

-- of a family of this width
unfoldable pub family_at : AdjustedEntry → ConsensusBaseBuilder → ℕ → List ℕ → List ℕ → Result Found
family_at e b w s ps =
    let text = bytes_by e b (row_columns_at w s ps) in
    judged (verdict_at w s ps) (found_by text (list_any (differs_from text) (rows_at w s ps)) (last_by e b (row_columns_at w s ps)))

-- the first string alone. One that does not lie in the set is refused by 2, which is free, as SCOPE 4 has no such list
unfoldable pub first_at : ConsensusBaseBuilder → Bool → ℕ → List ℕ → List ℕ → Result Found
first_at b flag w s ps =
    if fitting w s (take 1 ps) then Ok (found_by (take w (drop (byte_at ps 0 + 1) s)) flag b)
    else Err CutOff

-- of any
unfoldable pub group_at : ℕ → ℕ → ConsensusBaseBuilder → ℕ → List ℕ → List ℕ → Result Found
group_at post q b trim s ps =
    let width = byte_at s (byte_at ps 0) - trim in
    if is_empty ps then Ok (found_by [] false b)
    else (if ltb 1 (length ps) && lengths_alike s ps then family_at (entry_at post q) b width s ps else first_at b (not (lengths_alike s ps)) width s ps)
