-- Demand 1, whole. Assumes nothing.
use Rattle.std.specs.Prelude.{Ok}
use Rattle.refusals.specs.Result.{and_then}
use Rattle.simple_consensus.specs.Consensus.{default_caller, call_consensus_of, consensus_of, umis_of}
use Rattle.simple_umi.specs.Duplex.{duplex_of}
use Rattle.umi_groups.specs.Found.{room_for}
use Rattle.simple_consensus.specs.Answers.{call_consensus_in, consensus_umis_in}
use Rattle.simple_umi.specs.Answers.{consensus_in, duplex_in}
use Rattle.umi_groups.proofs.Room.{room_short, room_enough}
use Rattle.simple_umi_laws.proofs.ConditionLaws.{conditions as string_conditions}
use Rattle.column_file_laws.proofs.ConditionLaws.{conditions as file_conditions}
use Rattle.column_writer_laws.proofs.ConditionLaws.{part_conditions, finish_conditions}
use Rattle.base_builder_laws.proofs.GoodCalls.{good_calls}
use Rattle.base_builder_laws.proofs.AddConditions.{add_conditions}
use Rattle.demands.specs.Demand1.{text, duplex_text, Demand1}
use Rattle.demands.proofs.Refused.{set_conditions, in_turn_lem, listing_conditions, unchanged}

pub demand1 : Demand1
unfolding call_consensus_in consensus_in consensus_umis_in duplex_in
demand1 = record {
  calls = good_calls;
  bases = add_conditions;
  sets = set_conditions;
  strings = string_conditions;
  call_consensus = λ c set out. in_turn_lem (call_consensus_of c) text set out (room_for out) (λ f h. room_short out f h) (λ f h. room_enough out f h);
  consensus = λ c set out. in_turn_lem (consensus_of c) text set out (room_for out) (λ f h. room_short out f h) (λ f h. room_enough out f h);
  consensus_umis = λ set out. in_turn_lem (umis_of default_caller) text set out (room_for out) (λ f h. room_short out f h) (λ f h. room_enough out f h);
  consensus_duplex = λ c set out.
      in_turn_lem (duplex_of c) duplex_text set out (λ d. and_then (room_for out d.found) (λ f. Ok d))
      (λ d h. rw (room_short out d.found h)) (λ d h. rw (room_enough out d.found h));
  files = file_conditions;
  listings = listing_conditions;
  parts = part_conditions;
  finishes = finish_conditions;
  unchanged = unchanged;
}
