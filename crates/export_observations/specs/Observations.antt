-- What a builder has counted, as bytes.
use Rattle.std.specs.Prelude.{ℕ, List, [], ◌∷◌, ◌++◌, eqb, length}
use Rattle.std.specs.Prelude.{if◌then◌else◌}
use Rattle.words.specs.Lists.{listed}
use Rattle.base_builder.specs.declared.builder.ConsensusBaseBuilder.{ConsensusBaseBuilder}
use Rattle.base_builder.specs.Builder.{contributions_of, observations_for_base}
use Rattle.lent_bytes.specs.Bytes.{joined, four_bytes}
use Rattle.export_reports.specs.State.{builder_of}

-- how many bases contributed, how often each of the 256 bytes was observed, how often each of the four bases
unfoldable pub observation_counts : ConsensusBaseBuilder → List ℕ
observation_counts b = contributions_of b ∷ listed (observations_for_base b) 0 256 ++ b.observations

-- those of a builder of 80 given bytes, at whatever rate, in four bytes each; nothing where the state has another length
unfoldable pub observation_count_bytes : List ℕ → List ℕ
observation_count_bytes state =
    if eqb (length state) 80 then joined four_bytes (observation_counts (builder_of 0 state))
    else []
