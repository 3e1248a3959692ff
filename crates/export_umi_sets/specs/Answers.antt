-- What sets in turn are answered by one caller.
use Rattle.std.specs.Prelude.{ℕ, Bool, false, List, [], ◌∷◌, ◌++◌, length, leb}
use Rattle.std.specs.Option.{option_map_or}
use Rattle.string_set.specs.Readers.{Taken, taken, short}
use Rattle.lent_bytes.specs.Bytes.{number_bytes}
use Rattle.export_reports.specs.Report.{builder_bytes}
use Rattle.simple_consensus.specs.declared.caller.SimpleConsensusCaller.{SimpleConsensusCaller}
use Rattle.simple_consensus.specs.Consensus.{caller_at}
use Rattle.simple_consensus.specs.Answers.{caller_after}
use Rattle.export_umi.specs.declared.asked.Question.{Question}
use Rattle.export_umi.specs.Asked.{question_of, asked_found, code_by, asked_text}
use Rattle.export_umi.specs.Sent.{room_for_string}
use Rattle.export_umi_sets.specs.Reading.{sets_in}

-- the caller after a set: unchanged where the set is refused
abbrev pub after_set : Question → SimpleConsensusCaller → List ℕ → SimpleConsensusCaller
after_set q c set = caller_after c (asked_found q c set room_for_string)

-- a set's answer: the code in 8 bytes, the string, none where it is refused, and the 80 bytes of the builder afterwards
unfoldable pub set_bytes : Question → SimpleConsensusCaller → List ℕ → List ℕ
set_bytes q c set = number_bytes 8 (code_by q c set room_for_string) ++ (asked_text (asked_found q c set room_for_string) ++ builder_bytes (after_set q c set).builder)

-- of sets in turn, each by the caller as the one before leaves it
unfoldable pub sets_bytes : Question → SimpleConsensusCaller → List (List ℕ) → List ℕ
sets_bytes q c [] = []
sets_bytes q c (set ∷ l) = set_bytes q c set ++ sets_bytes q (after_set q c set) l

-- of what was read: nothing where a length reaches past the end
abbrev pub answers_to : Question → SimpleConsensusCaller → Taken (List (List ℕ)) → List ℕ
answers_to q c short = []
answers_to q c (taken l r) = sets_bytes q c l

-- whether there is an answer: no length reaches past the end, and the buffer holds it
abbrev pub is_answered : Taken (List (List ℕ)) → List ℕ → List ℕ → Bool
is_answered short said out = false
is_answered (taken l r) said out = leb (length said) (length out)

-- by a new caller of two rates and a quality: 0 call_consensus, 1 consensus, 3 consensus_duplex; nothing for another number
unfoldable pub umi_sets_bytes : ℕ → ℕ → ℕ → ℕ → List ℕ → List ℕ
umi_sets_bytes pre post quality which sets = option_map_or (λ q. answers_to q (caller_at pre post quality) (sets_in sets)) (question_of which) []
