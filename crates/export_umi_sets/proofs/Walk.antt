-- Sets one after another: a step, and the walk over all of them. Assumes nothing.
use mathlib.Core.Path.{◌≡◌, refl, sym, ◌∙◌, ap}
use mathlib.Core.List.{List, [], ◌∷◌, ◌++◌, append_assoc, append-nil}
use Prim.Native.Nat.{ℕ, zero, suc, ◌+◌, ◌-◌, ◌≤◌, ◌<◌}
use native.Mathlib.Omega.{arith}
use borrow.Author.Tests.{le-leb, lt-leb}
use lib.ListN.{length, take, drop}
use Rattle.std.proofs.Common.{true, false, Option, Some, None, Bor, MatchOption, IsNone, OnSome}
use Rattle.std.specs.List.{IsSplitAt}
use Rattle.lent_bytes.specs.Bytes.{number_at}
use Rattle.string_set.specs.Readers.{Taken, taken, short, next, front}
use Rattle.string_set.proofs.Readers.{prepend}
use Rattle.simple_consensus.specs.declared.caller.SimpleConsensusCaller.{SimpleConsensusCaller}
use Rattle.export_umi.specs.declared.asked.Question.{Question}
use Rattle.export_umi_sets.specs.Reading.{set_size, sized_set, sets_within}
use Rattle.export_umi_sets.specs.Answers.{after_set, set_bytes, sets_bytes, answers_to, is_answered}

-- ---- whether there is an answer

pub short_unanswered : (t : Taken (List (List ℕ))) (said out : List ℕ) → length out < length said → is_answered t said out ≡ false
short_unanswered short said out h = refl
short_unanswered (taken l r) said out h = lt-leb (length said) (length out) h

pub well_answered : (t : Taken (List (List ℕ))) (said out : List ℕ) → (t ≡ short → ⊥) → length said ≤ length out → is_answered t said out ≡ true
well_answered short said out n h = absurd (n refl)
well_answered (taken l r) said out n h = le-leb (length said) (length out) h

-- ---- a set at the front

front_whole : (n : ℕ) (r : List ℕ) → n ≤ length r → front n r ≡ taken (take n r) (drop n r)
unfolding front
front_whole n r h = rw (le-leb n (length r) h)

front_cut : (n : ℕ) (r : List ℕ) → length r < n → front n r ≡ short
unfolding front
front_cut n r h = rw (lt-leb n (length r) h)

module _ (s : List ℕ) where
  pub no_size : length s < 4 → sized_set s ≡ short
  unfolding sized_set set_size
  no_size h = rw (front_cut 4 s h)

  set_cut : 4 ≤ length s → length (drop 4 s) < number_at s 4 0 → sized_set s ≡ short
  unfolding sized_set set_size number_at
  set_cut h k = rw (front_whole 4 s h, front_cut (number_at s 4 0) (drop 4 s) k)

  set_whole : 4 ≤ length s → number_at s 4 0 ≤ length (drop 4 s) → sized_set s ≡ taken (take (number_at s 4 0) (drop 4 s)) (drop (number_at s 4 0) (drop 4 s))
  unfolding sized_set set_size number_at
  set_whole h k = rw (front_whole 4 s h, front_whole (number_at s 4 0) (drop 4 s) k)

  -- by what std's cut at that place gives
  pub set_split : (r : Option (Bor (List ℕ) × Bor (List ℕ))) → 4 ≤ length s → MatchOption r (length (drop 4 s) < number_at s 4 0) (λ p. IsSplitAt (drop 4 s) (number_at s 4 0) p.0.now p.1.now)
      → MatchOption r (sized_set s ≡ short) (λ p. sized_set s ≡ taken p.0.now p.1.now)
  set_split None h k = set_cut h k
  set_split (Some p) h k = rw (k.1, k.2) (set_whole h k.0)

-- ---- the walk

-- one more, and none
within_more : (k : ℕ) (r : List ℕ) → 0 < k → 0 < length r → sets_within k r ≡ next (sized_set r) (λ a s. next (sets_within (k - 1) s) (λ l t. taken (a ∷ l) t))
unfolding sets_within
within_more zero r h l = absurd (omega arith)
within_more (suc k) [] h l = absurd (omega arith)
within_more (suc k) (x ∷ r) h l =
    let e : suc k - 1 ≡ k = omega arith in
    rw e

within_none : (k : ℕ) (r : List ℕ) → length r ≡ 0 → sets_within k r ≡ taken [] []
unfolding sets_within
within_none zero [] h = refl
within_none (suc k) [] h = refl
within_none k (x ∷ r) h = absurd (omega arith)

-- what the sets that were read are answered
abbrev pub answered : Question → SimpleConsensusCaller → Taken (List (List ℕ)) → Taken (List ℕ)
answered q c short = short
answered q c (taken l r) = taken (sets_bytes q c l) r

answered_next : (q : Question) (c : SimpleConsensusCaller) (set : List ℕ) (t : Taken (List (List ℕ)))
    → answered q c (next t (λ l r. taken (set ∷ l) r)) ≡ prepend (set_bytes q c set) (answered q (after_set q c set) t)
unfolding sets_bytes
answered_next q c set short = refl
answered_next q c set (taken l r) = refl

prepend_twice : (a b : List ℕ) (t : Taken (List ℕ)) → prepend a (prepend b t) ≡ prepend (a ++ b) t
prepend_twice a b short = refl
prepend_twice a b (taken m r) = ap (λ (l : List ℕ). taken l r) (sym (append_assoc a b m))

-- a turn of the loop: `done` is printed already, and at most k sets are left
module _ (q : Question) (c : SimpleConsensusCaller) (r : List ℕ) (k : ℕ) (done : List ℕ) (some : 0 < length r) (few : length r ≤ k) where
  pub turn : (set others : List ℕ) → sized_set r ≡ taken set others
      → prepend (done ++ set_bytes q c set) (answered q (after_set q c set) (sets_within (k - 1) others)) ≡ prepend done (answered q c (sets_within k r))
  turn set others e =
      let t = sets_within (k - 1) others in
      sym (rw (within_more k r (omega arith) some, e, answered_next q c set t) (prepend_twice done (set_bytes q c set) (answered q (after_set q c set) t)))

  pub turn_cut : sized_set r ≡ short → prepend done (answered q c (sets_within k r)) ≡ short
  turn_cut e = rw (within_more k r (omega arith) some, e)

pub turn_end : (q : Question) (c : SimpleConsensusCaller) (r : List ℕ) (k : ℕ) (done : List ℕ) → length r ≡ 0 → prepend done (answered q c (sets_within k r)) ≡ taken (done ++ []) []
unfolding sets_bytes
turn_end q c r k done h = rw (within_none k r h)

-- ---- what the walk says of the sets

module _ (q : Question) (c : SimpleConsensusCaller) (done : List ℕ) where
  pub cut_off : (t : Taken (List (List ℕ))) → answered q c t ≡ short → t ≡ short
  cut_off short e = refl
  cut_off (taken l r) e = absurd cc

  pub all_answered : (t : Taken (List (List ℕ))) → answered q c t ≡ taken (done ++ []) [] → (t ≡ short → ⊥) × (answers_to q c t ≡ done)
  all_answered short e = absurd cc
  all_answered (taken l r) e =
      let same : sets_bytes q c l ≡ done ++ [] = cc in
      (λ k. cc, same ∙ append-nil done)

-- a second walk over the same sets is not cut off either
pub walked_again : {P Q : Type 0} (r : Option (Unit {0})) → (IsNone r → P) × (P → IsNone r) → (P → ⊥) → OnSome r Q → Q
walked_again None cut whole put = absurd (whole (cut.0 refl))
walked_again (Some u) cut whole put = put
