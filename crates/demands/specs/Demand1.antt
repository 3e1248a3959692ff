-- Demand 1, whole (SCOPE 1.1): what is accepted, what a call can be, what is refused and what that leaves.
use Rattle.std.specs.Prelude.{List, ℕ}
use Rattle.refusals.specs.declared.Refusal.{Refusal}
use Rattle.base_builder.specs.declared.builder.ConsensusBaseBuilder.{ConsensusBaseBuilder}
use Rattle.base_builder_laws.specs.GoodCalls.{GoodCalls}
use Rattle.base_builder_laws.specs.AddConditions.{AddConditions}
use Rattle.simple_consensus.specs.declared.caller.SimpleConsensusCaller.{SimpleConsensusCaller}
use Rattle.umi_groups.specs.Found.{Found}
use Rattle.simple_consensus.specs.Consensus.{default_caller, call_consensus_of, consensus_of, umis_of}
use Rattle.simple_umi.specs.Duplex.{FoundDuplex, duplex_of}
use Rattle.simple_consensus.specs.Answers.{call_consensus_in, consensus_umis_in}
use Rattle.simple_umi.specs.Answers.{consensus_in, duplex_in}
use Rattle.simple_umi_laws.specs.Laws.{StringConditions}
use Rattle.column_file_laws.specs.Conditions.{FileConditions}
use Rattle.column_writer.specs.declared.stages.PartKind.{PartKind}
use Rattle.column_writer.specs.declared.writer.Writer.{Writer}
use Rattle.column_writer_laws.specs.Conditions.{PartConditions, FinishConditions}
use Rattle.demands.specs.Refused.{SetConditions, InTurn, ListingConditions, Unchanged}

-- the string of an answer, of one set and of two strands
abbrev pub text : Found → List ℕ
text f = f.text

abbrev pub duplex_text : FoundDuplex → List ℕ
duplex_text d = d.found.text

pub record Demand1 : Type 0 where
  -- A call is A, C, G or T with a quality from 2 to 93, or N with 2: for any builder, with the tables of any pre-UMI rate.
  pub calls : (pre : ℕ) (b : ConsensusBaseBuilder) → GoodCalls pre b
  -- Every byte is accepted by a builder of any rates, at every quality, but for 11: a base that meets 4,294,967,295 counted bases or more.
  pub bases : (base : ℕ) (b : ConsensusBaseBuilder) → AddConditions base b
  -- A string set's bytes are refused by 1 and 2 alone.
  pub sets : (set : List ℕ) → SetConditions set
  -- Its strings are refused by 5 to 9 alone.
  pub strings : (l : List (List ℕ)) → StringConditions l
  -- Each function on a set refuses by these in turn, and by 10 last.
  pub call_consensus : (c : SimpleConsensusCaller) (set out : List ℕ) → InTurn (call_consensus_of c) text set out (call_consensus_in c set out)
  pub consensus : (c : SimpleConsensusCaller) (set out : List ℕ) → InTurn (consensus_of c) text set out (consensus_in c set out)
  pub consensus_umis : (set out : List ℕ) → InTurn (umis_of default_caller) text set out (consensus_umis_in set out)
  pub consensus_duplex : (c : SimpleConsensusCaller) (set out : List ℕ) → InTurn (duplex_of c) duplex_text set out (duplex_in c set out)
  -- A column file is refused by 1 to 4 alone.
  pub files : (s : List ℕ) → FileConditions s
  -- Its listing is refused by these, then by 7 to 9 of its strings, and by 10 last.
  pub listings : (s out : List ℕ) → ListingConditions s out
  -- A part of a file that is being written is refused by 13, then by 1 to 4, and by 12 last; the finish by 13 alone.
  pub parts : (w : Writer) (kind : PartKind) (part file : List ℕ) → PartConditions w kind part file
  pub finishes : (w : Writer) → FinishConditions w
  -- A refusal leaves the caller with its builder, a writer and every borrowed buffer as they were; for 11 the builder, by `bases`.
  pub unchanged : (r : Refusal) → Unchanged r
