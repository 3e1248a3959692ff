-- What the code in a set's answer is.
use Rattle.std.specs.Prelude.{◌≡◌, List, ℕ, ◌≤◌, ◌<◌, length}
use Rattle.words.specs.Lists.{byte_at}
use Rattle.simple_consensus.specs.declared.caller.SimpleConsensusCaller.{SimpleConsensusCaller}
use Rattle.export_umi.specs.declared.asked.Question.{Question}
use Rattle.export_umi.specs.declared.asked.Question.TheVariants.{CallConsensus, Consensus, ConsensusDuplex}
use Rattle.export_umi.specs.Asked.{code_by}
use Rattle.export_umi.specs.Sent.{room_for_string, caller_reply}

-- the reply of `consensus_umi_caller` by such a caller, with a buffer for the longest string and a builder
abbrev pub SameReply : ℕ → Question → Type 0
SameReply which q = (c : SimpleConsensusCaller) (set out : List ℕ) → 335 ≤ length out → code_by q c set room_for_string ≡ caller_reply which c set out

-- of bytes it is never 10, as no string is longer than 255
abbrev pub NeverTen : Question → Type 0
NeverTen q = (c : SimpleConsensusCaller) (set : List ℕ) → ((k : ℕ) → byte_at set k < 256) → code_by q c set room_for_string ≡ 10 → ⊥

pub record Codes : Type 0 where
  pub call : SameReply 0 CallConsensus
  pub consensus : SameReply 1 Consensus
  pub duplex : SameReply 3 ConsensusDuplex
  pub never_ten : (q : Question) → NeverTen q
