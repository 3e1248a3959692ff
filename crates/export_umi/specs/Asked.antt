-- The functions of a caller, each by its name: what it finds, and the code of its answer.
use Rattle.std.specs.Prelude.{ℕ, Bool, false, List, [], length, eqb, Err, Ok, Option, Some, None}
use Rattle.std.specs.Prelude.{if◌then◌else◌}
use Rattle.refusals.specs.Result.{Result, map_ok}
use Rattle.simple_consensus.specs.declared.caller.SimpleConsensusCaller.{SimpleConsensusCaller}
use Rattle.simple_consensus.specs.Consensus.{with_builder}
use Rattle.umi_groups.specs.Found.{Found}
use Rattle.simple_consensus.specs.Answers.{call_consensus_in}
use Rattle.simple_umi.specs.Answers.{consensus_in, duplex_in, pair_found}
use Rattle.export_umi.specs.declared.asked.Asked.{Asked}
use Rattle.export_umi.specs.declared.asked.Question.{Question}
use Rattle.export_umi.specs.declared.asked.Question.TheVariants.{CallConsensus, Consensus, ConsensusDuplex}
use Rattle.export_umi.specs.declared.codes.Given.{Given}
use Rattle.export_umi.specs.Codes.{code_of}

-- 0 call_consensus, 1 consensus, 3 consensus_duplex
abbrev pub question_of : ℕ → Option Question
question_of which =
    if eqb which 0 then Some CallConsensus
    else if eqb which 1 then Some Consensus
    else if eqb which 3 then Some ConsensusDuplex
    else None

-- what is found of a set, with a buffer for the string
abbrev pub asked_found : Question → SimpleConsensusCaller → List ℕ → List ℕ → Result Found
asked_found CallConsensus c set text = call_consensus_in c set text
asked_found Consensus c set text = consensus_in c set text
asked_found ConsensusDuplex c set text = pair_found (duplex_in c set text)

-- what is given of it, with two flags, and the caller afterwards
abbrev pub given_of : Found → Bool → Bool → Given
given_of f a b = record { length = length f.text; had_errors_a = a; had_errors_b = b }

abbrev pub asked_of : SimpleConsensusCaller → Found → Bool → Bool → Asked
asked_of c f a b = record { given = given_of f a b; caller = with_builder f.builder c }

-- the answer, with the flags that the function has
abbrev pub asked_in : Question → SimpleConsensusCaller → List ℕ → List ℕ → Result Asked
asked_in CallConsensus c set text = map_ok (λ f. asked_of c f false false) (call_consensus_in c set text)
asked_in Consensus c set text = map_ok (λ f. asked_of c f f.had_errors false) (consensus_in c set text)
asked_in ConsensusDuplex c set text = map_ok (λ d. asked_of c d.found d.found.had_errors d.had_errors_b) (duplex_in c set text)

-- its code
abbrev pub code_by : Question → SimpleConsensusCaller → List ℕ → List ℕ → ℕ
code_by q c set text = code_of (map_ok (λ a. a.given) (asked_in q c set text))

-- the string, none where it is refused
abbrev pub asked_text : Result Found → List ℕ
asked_text (Err r) = []
asked_text (Ok f) = f.text
