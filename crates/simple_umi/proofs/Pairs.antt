-- What two strands give: each by its group, both together, and the reply. Assumes nothing.
use Rattle.std.specs.Prelude.{Err, Ok}
use Rattle.std.proofs.Common.{◌≡◌, ℕ, List, length, take, drop, ◌≤◌, ◌∙◌, ap, refl, arith}
use borrow.Author.Tests.{le-leb}
use lib.Seq.{take_at}
use Rattle.words.proofs.Cases.{test}
use Rattle.words.specs.Lists.{is_empty}
use Rattle.lent_bytes.specs.Buffer.{written}
use Rattle.refusals.specs.declared.Refusal.{Refusal}
use Rattle.std.specs.Result.{result_unwrap_or}
use Rattle.refusals.specs.Result.{Result, and_then, map_ok}
use Rattle.string_set.specs.StringSet.{read_set}
use Rattle.umi_groups.specs.Found.{Found, found_length, buffer_after}
use Rattle.simple_consensus.specs.declared.caller.SimpleConsensusCaller.{SimpleConsensusCaller}
use Rattle.simple_consensus.specs.declared.group.GroupConsensus.{GroupConsensus}
use Rattle.simple_consensus.specs.Consensus.{with_builder, consensus_of}
use Rattle.simple_consensus.specs.Answers.{group_consensus_of, caller_after}
use Rattle.simple_umi.specs.declared.umi_caller.DuplexConsensus.{DuplexConsensus}
use Rattle.simple_umi.specs.Duplex.{FoundDuplex, strand_of, pairing, either, paired, duplex_of}
use Rattle.simple_umi.specs.Answers.{room_for_both, duplex_in, duplex_consensus_of, pair_found}

-- the front of a buffer that a text was written into
pub front_written : (t x : List ℕ) → length t ≤ length x → take (length t) (written t x) ≡ t
unfolding written
front_written t x h = rw (le-leb (length t) (length x) h) (take_at t (drop (length t) x) (length t) refl)

-- what a strand gives: its text in the front of the buffer
pub strand_text : (t : Result Found) (f : Found) (g : GroupConsensus) (c : SimpleConsensusCaller) → t ≡ Ok f → group_consensus_of c f ≡ g → found_length t ≤ 255
    → (x y : List ℕ) → length x ≡ 255 → y ≡ buffer_after x t → (take g.length y ≡ f.text) × (g.length ≤ 255) × (length f.text ≤ 255)
strand_text t f g c e h few x y size lent =
    let long : length f.text ≡ g.length = ap (λ (k : GroupConsensus). k.length) h in
    let short : length f.text ≤ 255 = rw e at few in
    let there : y ≡ written f.text x = rw e at lent in
    (ap (take g.length) there ∙ rw (← long) (front_written f.text x (omega arith)), omega arith, short)

-- ---- both strands

-- the caller that is then had: his own where they are refused
pub kept_pair : (c : SimpleConsensusCaller) (t : Result FoundDuplex) (r : Result DuplexConsensus) → r ≡ map_ok (duplex_consensus_of c) t
    → result_unwrap_or (map_ok (λ (given : DuplexConsensus). given.caller.caller) r) c ≡ caller_after c (pair_found t)
kept_pair c (Err x) r e = rw e refl
kept_pair c (Ok d) r e = rw e refl

then_accepted : (u : Result Found) (f : Found → FoundDuplex) (g : FoundDuplex → Result FoundDuplex) → and_then (and_then u (λ b. Ok (f b))) g ≡ and_then u (λ b. g (f b))
then_accepted (Err r) f g = refl
then_accepted (Ok b) f g = refl

module _ (c : SimpleConsensusCaller) (strings : List (List ℕ)) (out : List ℕ) where
  pub a_refused : (r : Refusal) → consensus_of c (strand_of 65 strings) ≡ Err r → and_then (duplex_of c strings) (room_for_both out) ≡ Err r
  unfolding duplex_of
  a_refused r e = rw e

  -- /B by the caller that /A leaves
  module _ (f : Found) (e : consensus_of c (strand_of 65 strings) ≡ Ok f) (a : GroupConsensus) (left : group_consensus_of c f ≡ a) where
    after_a : and_then (duplex_of c strings) (room_for_both out) ≡ and_then (consensus_of a.caller (strand_of 66 strings)) (λ g. room_for_both out (paired f g))
    unfolding duplex_of
    after_a =
        rw e (then_accepted (consensus_of (with_builder f.builder c) (strand_of 66 strings)) (paired f) (room_for_both out))
        ∙ ap (λ (x : GroupConsensus). and_then (consensus_of x.caller (strand_of 66 strings)) (λ g. room_for_both out (paired f g))) left

    pub b_refused : (r : Refusal) → consensus_of a.caller (strand_of 66 strings) ≡ Err r → and_then (duplex_of c strings) (room_for_both out) ≡ Err r
    b_refused r k = after_a ∙ rw k

    module _ (g : Found) (k : consensus_of a.caller (strand_of 66 strings) ≡ Ok g) (b : GroupConsensus) (right : group_consensus_of a.caller g ≡ b) where
      pub both_given : and_then (duplex_of c strings) (room_for_both out) ≡ room_for_both out (pairing f g (either f.text g.text))
      unfolding paired
      both_given = after_a ∙ rw k

      pub both_reply : ◌≡◌ {A = DuplexConsensus}
          (record { caller = record { caller = b.caller }; length = length (either f.text g.text); had_errors_a = a.had_errors; had_errors_b = b.had_errors })
          (duplex_consensus_of c (pairing f g (either f.text g.text)))
      unfolding with_builder
      both_reply = rw (← right, ← left) refl

module _ (c : SimpleConsensusCaller) (set out : List ℕ) where
  pub duplex_in_refused : (r : Refusal) → read_set set ≡ Err r → duplex_in c set out ≡ Err r
  unfolding duplex_in
  duplex_in_refused r e = rw e

  pub duplex_in_lem : (strings : List (List ℕ)) → read_set set ≡ Ok strings → duplex_in c set out ≡ and_then (duplex_of c strings) (room_for_both out)
  unfolding duplex_in
  duplex_in_lem strings e = rw e

pub either_few : (a b : List ℕ) → length a ≤ 255 → length b ≤ 255 → length (either a b) ≤ 255
either_few a b few more = test (is_empty a) (λ h. rw h more) (λ h. rw h few)
