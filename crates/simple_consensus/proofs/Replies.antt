-- What the functions reply of what was found, and of a set's bytes. Assumes nothing.
use Rattle.std.specs.Prelude.{Err, Ok, IfOk}
use Rattle.std.specs.Result.{result_unwrap_or}
use Rattle.std.proofs.Common.{◌≡◌, ℕ, List, length, ◌≤◌, ◌<◌, ◌∙◌, ap, refl}
use Rattle.refusals.specs.declared.Refusal.{Refusal}
use Rattle.refusals.specs.declared.Refusal.TheVariants.{NoStrings}
use Rattle.refusals.specs.Refusals.{number_in}
use Rattle.refusals.specs.Result.{Result, and_then, map_ok}
use Rattle.refusals.proofs.Numbers.{number_in-map_ok}
use Rattle.string_set.specs.StringSet.{read_set}
use Rattle.umi_groups.specs.Found.{Found, room_for, found_length}
use Rattle.simple_consensus.specs.declared.caller.SimpleConsensusCaller.{SimpleConsensusCaller}
use Rattle.simple_consensus.specs.Consensus.{with_builder, default_caller, umis_of}
use Rattle.simple_consensus.specs.Answers.{call_consensus_in, consensus_umis_in, caller_after}
use Rattle.simple_consensus.proofs.Groups.{call_none, call_some}

-- what a function replies of a string that was found, whose length `size` reads: the reply, which is short, and its number
pub record Replied {B : Type 0} (f : Found → B) (size : B → ℕ) (t : Result Found) (r : Result B) : Type 0 where
  pub answer : r ≡ map_ok f t
  pub short : IfOk r (λ b. size b ≤ 255)
  pub number : number_in r ≡ number_in t

-- the caller that is then had, where a function replies by f: his own where it refuses
pub kept_caller : {B : Type 0} (f : Found → B) (caller : B → SimpleConsensusCaller) (c : SimpleConsensusCaller) → ((x : Found) → caller (f x) ≡ with_builder x.builder c)
    → (t : Result Found) (r : Result B) → r ≡ map_ok f t → result_unwrap_or (map_ok caller r) c ≡ caller_after c t
kept_caller f caller c same (Err x) r e = rw e refl
kept_caller f caller c same (Ok x) r e = rw e (same x)

short_by : {B : Type 0} (f : Found → B) (size : B → ℕ) → ((x : Found) → size (f x) ≡ length x.text) → (t : Result Found) → found_length t ≤ 255
    → IfOk (map_ok f t) (λ b. size b ≤ 255)
short_by f size same (Err r) few = tt
short_by f size same (Ok x) few = rw (same x) few

pub replied : {B : Type 0} (f : Found → B) (size : B → ℕ) → ((x : Found) → size (f x) ≡ length x.text) → (t : Result Found) → found_length t ≤ 255
    → (r : Result B) → r ≡ map_ok f t → Replied f size t r
replied f size same t few r e = record { answer = e; short = rw e (short_by f size same t few); number = ap number_in e ∙ number_in-map_ok f t }

-- ---- of a set's bytes: refused where the set is, and else of its strings
module _ (s out : List ℕ) where
  pub umis_in_refused : (r : Refusal) → read_set s ≡ Err r → consensus_umis_in s out ≡ Err r
  unfolding consensus_umis_in
  umis_in_refused r e = rw e

  pub umis_in : (l : List (List ℕ)) → read_set s ≡ Ok l → consensus_umis_in s out ≡ and_then (umis_of default_caller l) (room_for out)
  unfolding consensus_umis_in
  umis_in l e = rw e

  module _ (c : SimpleConsensusCaller) where
    pub call_in_refused : (r : Refusal) → read_set s ≡ Err r → call_consensus_in c s out ≡ Err r
    unfolding call_consensus_in
    call_in_refused r e = rw e

    pub call_in_none : (l : List (List ℕ)) → read_set s ≡ Ok l → length l ≡ 0 → call_consensus_in c s out ≡ Err NoStrings
    unfolding call_consensus_in
    call_in_none l e h = rw (e, call_none c l h)

    pub call_in : (l : List (List ℕ)) → read_set s ≡ Ok l → 0 < length l → call_consensus_in c s out ≡ and_then (umis_of c l) (room_for out)
    unfolding call_consensus_in
    call_in l e h = rw (e, call_some c l h)
