-- Demand 3, whole. Assumes nothing.
use mathlib.Core.List.{[]}
use Rattle.rate_tables.specs.Adjusted.{adjusted_tables}
use Rattle.gap_tables.proofs.OfARate.{thresholds_of_a_rate}
use Rattle.base_builder.specs.History.{after}
use Rattle.base_builder_laws.specs.Counted.{counted_since}
use Rattle.demands.specs.Demand3.{Demand3}
use Rattle.base_builder_laws.proofs.Run.{after_holds}
use Rattle.base_builder_laws.proofs.OwnTables.{own_entry}
use Rattle.base_builder_laws.proofs.SameBase.{unanimous_agrees, multibase_agrees}

pub demand3 : Demand3
demand3 = record {
  same_base = λ pre post rule es.
      let b = after pre post rule es in
      (unanimous_agrees (adjusted_tables post) (counted_since [] es) b (after_holds pre post rule es) pre, multibase_agrees b);
  thresholds = thresholds_of_a_rate;
  in_the_table = own_entry;
}
