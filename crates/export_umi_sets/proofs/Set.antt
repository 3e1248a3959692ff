-- What a set is answered, by what is found of it. Assumes nothing.
use Rattle.std.proofs.Common.{◌≡◌, ℕ, ◌≤◌, List, ◌++◌, length, take, Ok, Err, sym, ap, ◌∙◌}
use Rattle.refusals.specs.declared.Refusal.{Refusal}
use Rattle.refusals.specs.Refusals.{number_of}
use Rattle.refusals.specs.Result.{Result}
use Rattle.lent_bytes.specs.Bytes.{number_bytes}
use Rattle.export_reports.specs.Report.{builder_bytes}
use Rattle.umi_groups.specs.Found.{Found, buffer_after}
use Rattle.simple_consensus.specs.declared.caller.SimpleConsensusCaller.{SimpleConsensusCaller}
use Rattle.simple_consensus.specs.Consensus.{with_builder}
use Rattle.simple_consensus.specs.Answers.{caller_after}
use Rattle.export_umi.specs.declared.asked.Asked.{Asked}
use Rattle.export_umi.specs.declared.asked.Question.{Question}
use Rattle.export_umi.specs.Codes.{given_code}
use Rattle.export_umi.specs.Asked.{asked_found, asked_in, asked_text, code_by}
use Rattle.export_umi.specs.Sent.{room_for_string}
use Rattle.export_umi.proofs.Laws.{refuses, found, is_found, code_is, builder_is, text_is}
use Rattle.export_umi_sets.specs.Answers.{set_bytes}

found_bytes : (c : SimpleConsensusCaller) {t : Result Found} {f : Found} → t ≡ Ok f → asked_text t ++ builder_bytes (caller_after c t).builder ≡ f.text ++ builder_bytes f.builder
unfolding with_builder
found_bytes c e = rw e

refused_bytes : (c : SimpleConsensusCaller) {t : Result Found} {x : Refusal} → t ≡ Err x → asked_text t ++ builder_bytes (caller_after c t).builder ≡ builder_bytes c.builder
refused_bytes c e = rw e

module _ (q : Question) (c : SimpleConsensusCaller) (set : List ℕ) where
  -- the code, the string at the front of its buffer, the builder
  pub set_given : {a : Asked} (e : asked_in q c set room_for_string ≡ Ok a) {text : List ℕ} → a.given.length ≤ 255 → text ≡ buffer_after room_for_string (asked_found q c set room_for_string)
      → number_bytes 8 (given_code a.given.length a.given.had_errors_a a.given.had_errors_b) ++ (take a.given.length text ++ builder_bytes a.caller.builder) ≡ set_bytes q c set
  unfolding set_bytes
  set_given {a} e {text} short lent =
      let f = found q c set e in
      let string = ap (λ (l : List ℕ). l ++ builder_bytes a.caller.builder) (text_is q c set e short lent) in
      let state = ap (λ (b : List ℕ). f.text ++ b) (ap builder_bytes (builder_is q c set e)) in
      let both = string ∙ state ∙ sym (found_bytes c (is_found q c set e)) in
      ap (λ (n : ℕ). number_bytes 8 n ++ (take a.given.length text ++ builder_bytes a.caller.builder)) (code_is q c set e)
      ∙ ap (λ (l : List ℕ). number_bytes 8 (code_by q c set room_for_string) ++ l) both

  -- a refusal's number and the builder
  pub set_refused : {x : Refusal} → asked_in q c set room_for_string ≡ Err x → number_bytes 8 (number_of x) ++ builder_bytes c.builder ≡ set_bytes q c set
  unfolding set_bytes
  set_refused {x} e =
      let code : number_of x ≡ code_by q c set room_for_string = rw e in
      ap (λ (n : ℕ). number_bytes 8 n ++ builder_bytes c.builder) code
      ∙ ap (λ (l : List ℕ). number_bytes 8 (code_by q c set room_for_string) ++ l) (sym (refused_bytes c (refuses c set room_for_string q e)))
