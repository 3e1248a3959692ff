-- Lanes that were not observed are alike. Assumes nothing.
use mathlib.Core.Path.{◌≡◌, refl, sym, ap, ◌∙◌}
use mathlib.Core.Bool.{Bool, true, false}
use mathlib.Core.List.{List, [], ◌∷◌}
use Prim.Native.Nat.{ℕ, ◌+◌, ◌<◌}
use native.Mathlib.Omega.{arith}
use lib.Dec.{eqb}
use Rattle.std.specs.Prelude.{if◌then◌else◌}
use Rattle.rate_tables.specs.declared.adjusted.AdjustedProbabilityTables.{AdjustedProbabilityTables}
use Rattle.tie_rules.specs.Lanes.{lane, counted}
use Rattle.base_builder.specs.declared.builder.ConsensusBaseBuilder.{ConsensusBaseBuilder}
use Rattle.lane_sums.specs.declared.observation.Sum.{Sum}
use Rattle.lane_sums.specs.Observation.{value_of}
use Rattle.base_builder_laws.specs.Counted.{CountedObservation, values_of, kahan, times_counted}
use Rattle.base_builder_laws.proofs.Run.{Holds}

-- none so far: not the latest, and none before
none_yet : (c : Bool) (n : ℕ) → (if c then n + 1 else n) ≡ 0 → (c ≡ false) × (n ≡ 0)
none_yet true n e = absurd (omega arith)
none_yet false n e = (refl, e)

values_alike : (t : AdjustedProbabilityTables) (i j : ℕ) (os : List CountedObservation) → times_counted i os ≡ 0 → times_counted j os ≡ 0 → values_of t i os ≡ values_of t j os
unfolding values_of times_counted value_of
values_alike t i j [] g h = refl
values_alike t i j (o ∷ os) g h =
    let x = none_yet (eqb i o.at) (times_counted i os) g in
    let y = none_yet (eqb j o.at) (times_counted j os) h in
    rw (x.0, y.0, values_alike t i j os x.1 y.1)

pub alike : (t : AdjustedProbabilityTables) (os : List CountedObservation) (b : ConsensusBaseBuilder) → Holds t os b → (i j : ℕ) → i < 4 → j < 4
    → counted b.observations i ≡ 0 → counted b.observations j ≡ 0 → lane b.likelihoods i ≡ lane b.likelihoods j
alike t os b had i j g h m n =
    let e = values_alike t i j os (sym (had.counts i g) ∙ m) (sym (had.counts j h) ∙ n) in
    ap (λ (s : Sum). s.lane) (had.sums i g ∙ ap kahan e ∙ sym (had.sums j h))
