-- On a builder that holds what its observations leave: where a shortcut replies, the rule names its lane, which the long calculation calls. Assumes nothing.
use mathlib.Core.Path.{◌≡◌, refl, sym, ap, ◌∙◌}
use mathlib.Core.Bool.{Bool, true, false, ◌||◌}
use mathlib.Core.Logic.{◌≢◌}
use mathlib.Core.List.{List}
use Prim.Native.Nat.{ℕ, ◌+◌, ◌%◌, ◌<◌}
use native.Mathlib.Omega.{arith}
use lib.Dec.{ltb, eqb}
use lib.Ieee.{lt}
use lib.Ieee.Scale.{finite}
use borrow.Author.Tests.{ltb-true, eqb-true}
use Rattle.std.specs.Prelude.{Option, Some, None}
use Rattle.float.specs.Ops.{◌⊖◌, epsilon}
use Rattle.std.specs.Prelude.{if◌then◌else◌}
use Rattle.words.proofs.Cases.{both, clash}
use Rattle.rate_tables.specs.declared.adjusted.AdjustedProbabilityTables.{AdjustedProbabilityTables}
use Rattle.gap_tables.specs.Gaps.{gap_tables}
use Rattle.tie_rules.proofs.Lanes.{below_at}
use Rattle.tie_rules.specs.Lanes.{lane, no_lane, base_of, counted}
use Rattle.words.specs.Claims.{all_below}
use Rattle.tie_rules.specs.Ties.{untied}
use Rattle.lane_calls.specs.declared.call.Call.{Call}
use Rattle.unanimous_shortcut.specs.Unanimous.{first_seen, sole_lane, leads}
use Rattle.base_builder.specs.declared.builder.ConsensusBaseBuilder.{ConsensusBaseBuilder}
use Rattle.base_builder.specs.Calls.{unanimous_of, multibase_of, call_full_of}
use Rattle.base_builder_laws.specs.Counted.{CountedObservation}
use Rattle.base_builder_laws.specs.Agrees.{Agrees}
use Rattle.base_builder.specs.History.{ruled}
use Rattle.base_builder_laws.proofs.Run.{Holds}
use Rattle.base_builder_laws.proofs.Lanes.{alike}
use Rattle.float.proofs.Gap.{gap_lt}
use Rattle.base_builder_laws.proofs.Named.{other, named}
use Rattle.base_builder_laws.proofs.OwnTables.{Names}
use Rattle.base_builder_laws.proofs.Replies.{asked, unanimous_by, multibase_by, full_base}

-- the others of a lane that alone was observed were not
sole_others : (ns : List ℕ) → ltb (sole_lane ns) 4 ≡ true → (j : ℕ) → j < 4 → j ≢ sole_lane ns → counted ns j ≡ 0
unfolding sole_lane
sole_others ns =
    let i = first_seen ns in
    let alone : ℕ → Bool = λ (j : ℕ). eqb i j || eqb (counted ns j) 0 in
    go (all_below 4 alone) i
    (λ t j k d. eqb-true (counted ns j) 0 (other i j (eqb (counted ns j) 0) d (below_at 4 alone j t k)))
  where
    go : (c : Bool) (i : ℕ) → (c ≡ true → (j : ℕ) → j < 4 → j ≢ i → counted ns j ≡ 0)
        → ltb (if c then i else 4) 4 ≡ true → (j : ℕ) → j < 4 → j ≢ (if c then i else 4) → counted ns j ≡ 0
    go true i f h = f refl
    go false i f h = clash refl h

module _ (t : AdjustedProbabilityTables) (os : List CountedObservation) (b : ConsensusBaseBuilder) (had : Holds t os b) where
  abbrev i : ℕ
  i = sole_lane b.observations

  -- the lane that alone was observed is the rule's: the others are alike, and it leads them
  sole_named : asked b ≡ true → ruled b ≡ i
  unfolding leads
  sole_named h =
      let xs = b.likelihoods in
      let winner = lane xs i in
      let next = (i + 1) % 4 in
      let h1 = both (ltb i no_lane) _ h in
      let h2 = both (leads winner (lane xs next)) _ h1.1 in
      let h3 = both (finite winner) (untied b.tie_rule xs i winner) h2.1 in
      let gap = (both (finite (winner ⊖ lane xs next)) (lt epsilon (winner ⊖ lane xs next)) h2.0).1 in
      let inside = ltb-true i 4 h1.0 in
      let unseen = sole_others b.observations h1.0 in
      named xs i inside h3.0
      (λ (j : ℕ) (k : j < 4) (d : j ≢ i).
      rw (alike t os b had j next k (omega arith) (unseen j k d) (unseen next (omega arith) (omega arith))) (gap_lt winner (lane xs next) gap))
      b.tie_rule h3.1

  agrees : (k : ℕ) (r : Option Call) → ruled b ≡ k → Names k r → Agrees r (call_full_of b)
  agrees k (Some c) e n = n.0 ∙ sym (full_base b ∙ ap base_of e)
  agrees k None e n = tt

  pub unanimous_agrees : (pre : ℕ) → Agrees (unanimous_of (gap_tables pre) b) (call_full_of b)
  unanimous_agrees pre = unanimous_by pre b (λ (r : Option Call). Agrees r (call_full_of b)) (λ r h n. agrees i r (sole_named h) n) tt

-- on any builder at all: both name the rule's lane
pub multibase_agrees : (b : ConsensusBaseBuilder) → Agrees (multibase_of b) (call_full_of b)
multibase_agrees b = multibase_by b (λ (r : Option Call). Agrees r (call_full_of b)) (λ r h n. go r n) tt
  where
    go : (r : Option Call) → Names (ruled b) r → Agrees r (call_full_of b)
    go (Some c) n = n.0 ∙ sym (full_base b)
    go None n = tt
