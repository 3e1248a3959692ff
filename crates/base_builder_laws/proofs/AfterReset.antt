-- Any builder, after a reset and any events: the base of its call is that of the lane that its rule names. Assumes nothing.
use mathlib.Core.List.{List, [], ◌∷◌}
use Prim.Native.Nat.{ℕ}
use Rattle.rate_tables.specs.Adjusted.{adjusted_tables}
use Rattle.base_builder.specs.declared.builder.ConsensusBaseBuilder.{ConsensusBaseBuilder}
use Rattle.base_builder.specs.History.{Event, reset, run}
use Rattle.base_builder_laws.specs.Counted.{counted_since}
use Rattle.base_builder_laws.specs.Laws.{AfterReset}
use Rattle.base_builder_laws.proofs.Run.{reset_holds}
use Rattle.base_builder_laws.proofs.Laws.{held_base}

pub after_reset : (pre post : ℕ) (b : ConsensusBaseBuilder) (es : List Event) → AfterReset pre post b es
after_reset pre post b es =
    let t = adjusted_tables post in
    record { call_base = held_base t (counted_since [] es) (run t (reset ∷ es) b) (reset_holds t es b) pre }
