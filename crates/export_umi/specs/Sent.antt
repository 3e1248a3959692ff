-- The functions of a caller by number, with its builder afterwards behind the string.
use Rattle.std.specs.Prelude.{ℕ, List, ◌++◌, leb, length, replicate, Err, Ok}
use Rattle.std.specs.Prelude.{if◌then◌else◌}
use Rattle.std.specs.Option.{option_map_or}
use Rattle.lent_bytes.specs.Buffer.{written}
use Rattle.refusals.specs.Result.{Result}
use Rattle.export_reports.specs.Report.{builder_bytes}
use Rattle.simple_consensus.specs.declared.caller.SimpleConsensusCaller.{SimpleConsensusCaller}
use Rattle.umi_groups.specs.Found.{Found}
use Rattle.export_umi.specs.declared.asked.Question.{Question}
use Rattle.export_umi.specs.Asked.{question_of, asked_found, code_by}

-- room for every string
abbrev pub room_for_string : List ℕ
room_for_string = replicate 255 0

-- the string and the 80 bytes of the builder
abbrev pub sent_record : Found → List ℕ
sent_record f = f.text ++ builder_bytes f.builder

-- the code, or 10 where the buffer can't hold these
abbrev pub sent_reply : ℕ → Result Found → List ℕ → ℕ
sent_reply code (Err r) out = code
sent_reply code (Ok f) out =
    if leb (length (sent_record f)) (length out) then code
    else 10

-- what the buffer holds afterwards
abbrev pub sent_buffer : Result Found → List ℕ → List ℕ
sent_buffer (Err r) out = out
sent_buffer (Ok f) out = written (sent_record f) out

-- of a function
abbrev pub asked_reply : Question → SimpleConsensusCaller → List ℕ → List ℕ → ℕ
asked_reply q c set out = sent_reply (code_by q c set room_for_string) (asked_found q c set room_for_string) out

abbrev pub asked_buffer : Question → SimpleConsensusCaller → List ℕ → List ℕ → List ℕ
asked_buffer q c set out = sent_buffer (asked_found q c set room_for_string) out

-- 0 call_consensus, 1 consensus, 3 consensus_duplex; 0 for another number
unfoldable pub caller_reply : ℕ → SimpleConsensusCaller → List ℕ → List ℕ → ℕ
caller_reply which c set out = option_map_or (λ q. asked_reply q c set out) (question_of which) 0

-- what the buffer holds afterwards
unfoldable pub caller_buffer : ℕ → SimpleConsensusCaller → List ℕ → List ℕ → List ℕ
caller_buffer which c set out = option_map_or (λ q. asked_buffer q c set out) (question_of which) out
