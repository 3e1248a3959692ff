-- What an answer says of the string found, and what is sent of it. Assumes nothing.
use Rattle.std.proofs.Common.{◌≡◌, ℕ, ◌≤◌, true, false, leb, List, length, take, Ok, Err, refl, ap, ◌∙◌, arith}
use Rattle.lent_bytes.specs.Buffer.{written}
use Rattle.lent_bytes.proofs.Buffer.{written_front}
use Rattle.refusals.specs.declared.Refusal.{Refusal}
use Rattle.refusals.specs.Result.{Result, map_ok}
use Rattle.simple_consensus.specs.declared.caller.SimpleConsensusCaller.{SimpleConsensusCaller}
use Rattle.simple_consensus.specs.Consensus.{with_builder}
use Rattle.simple_consensus.specs.Answers.{call_consensus_in}
use Rattle.simple_umi.specs.Answers.{consensus_in, duplex_in, pair_found}
use Rattle.umi_groups.specs.Found.{Found, buffer_after}
use Rattle.export_umi.specs.declared.asked.Asked.{Asked}
use Rattle.export_umi.specs.declared.asked.Question.{Question}
use Rattle.export_umi.specs.declared.asked.Question.TheVariants.{CallConsensus, Consensus, ConsensusDuplex}
use Rattle.export_umi.specs.Codes.{given_code}
use Rattle.export_umi.specs.Asked.{asked_found, asked_in, code_by}
use Rattle.export_umi.specs.Sent.{room_for_string, sent_record, sent_reply, sent_buffer}

-- an answer comes of what was found
given_by : {A B : Type 0} (f : A → B) (t : Result A) {b : B} → map_ok f t ≡ Ok b → (a : A) × (t ≡ Ok a) × (b ≡ f a)
given_by f (Err x) e = absurd cc
given_by f (Ok a) e = (a, refl, cc)

refused_by : {A B : Type 0} (f : A → B) (t : Result A) {x : Refusal} → map_ok f t ≡ Err x → t ≡ Err x
refused_by f (Err y) e = cc
refused_by f (Ok a) e = absurd cc

-- what an answer is, where there is one, and where there is none
pub record Answers (found : Result Found) (c : SimpleConsensusCaller) (a : Asked) : Type 0 where
  pub of : Found
  pub is : found ≡ Ok of
  pub size : a.given.length ≡ length of.text
  pub caller : a.caller ≡ with_builder of.builder c

module _ (c : SimpleConsensusCaller) (set text : List ℕ) where
  pub answers : (q : Question) {a : Asked} → asked_in q c set text ≡ Ok a → Answers (asked_found q c set text) c a
  answers CallConsensus e =
      let g = given_by _ (call_consensus_in c set text) e in
      record { of = g.0; is = g.1; size = ap (λ (x : Asked). x.given.length) g.2; caller = ap (λ (x : Asked). x.caller) g.2 }
  answers Consensus e =
      let g = given_by _ (consensus_in c set text) e in
      record { of = g.0; is = g.1; size = ap (λ (x : Asked). x.given.length) g.2; caller = ap (λ (x : Asked). x.caller) g.2 }
  answers ConsensusDuplex e =
      let g = given_by _ (duplex_in c set text) e in
      record { of = (g.0).found; is = ap pair_found g.1; size = ap (λ (x : Asked). x.given.length) g.2; caller = ap (λ (x : Asked). x.caller) g.2 }

  pub refuses : (q : Question) {x : Refusal} → asked_in q c set text ≡ Err x → asked_found q c set text ≡ Err x
  refuses CallConsensus e = refused_by _ (call_consensus_in c set text) e
  refuses Consensus e = refused_by _ (consensus_in c set text) e
  refuses ConsensusDuplex e = ap pair_found (refused_by _ (duplex_in c set text) e)

-- ---- an answer with room for every string

module _ (q : Question) (c : SimpleConsensusCaller) (set : List ℕ) {a : Asked} (e : asked_in q c set room_for_string ≡ Ok a) where
  abbrev pub found : Found
  found = (answers c set room_for_string q e).of

  pub is_found : asked_found q c set room_for_string ≡ Ok found
  is_found = (answers c set room_for_string q e).is

  pub code_is : given_code a.given.length a.given.had_errors_a a.given.had_errors_b ≡ code_by q c set room_for_string
  code_is = rw e

  pub builder_is : a.caller.builder ≡ found.builder
  unfolding with_builder
  builder_is = ap (λ (x : SimpleConsensusCaller). x.builder) (answers c set room_for_string q e).caller

  -- the string stands at the front of the buffer
  module _ (short : a.given.length ≤ 255) {text : List ℕ} (lent : text ≡ buffer_after room_for_string (asked_found q c set room_for_string)) where
    held : text ≡ written found.text room_for_string
    held = rw is_found at lent

    size : a.given.length ≡ length found.text
    size = (answers c set room_for_string q e).size

    pub text_is : take a.given.length text ≡ found.text
    text_is = ap (λ (n : ℕ). take n text) size ∙ ap (take (length found.text)) held ∙ written_front found.text room_for_string (omega (arith, size, short))

-- ---- what is sent

module _ (code : ℕ) {t : Result Found} {f : Found} (out : List ℕ) {bs : List ℕ} (e : t ≡ Ok f) (s : bs ≡ sent_record f) where
  pub both_sent : leb (length bs) (length out) ≡ true → code ≡ sent_reply code t out
  both_sent h = rw (e, ← s, h)

  pub too_short : leb (length bs) (length out) ≡ false → 10 ≡ sent_reply code t out
  too_short h = rw (e, ← s, h)

  pub bytes_sent : written bs out ≡ sent_buffer t out
  bytes_sent = rw (e, s)
