-- What a builder holds after a list of events, for an arbitrary lane: the sum of the lane's own values, and the number of its base's observations since the
-- last reset. Assumes nothing.
use mathlib.Core.Path.{◌≡◌, refl, ap, ◌∙◌}
use mathlib.Core.Bool.{Bool, true, false, ◌||◌, true≢false}
use mathlib.Core.List.{List, [], ◌∷◌}
use Prim.Native.Nat.{ℕ, zero, suc, ◌+◌, ◌%◌, ◌^◌, ◌≤◌, ◌<◌}
use native.Mathlib.Omega.{arith}
use lib.Dec.{leb, eqb}
use lib.ListN.{get_or, get_or-replicate, length}
use lib.Ieee.{nan}
use borrow.Author.Tests.{leb-false}
use Rattle.float.specs.Ops.{plus_zero}
use Rattle.std.specs.Prelude.{if◌then◌else◌}
use Rattle.words.proofs.Cases.{choice}
use Rattle.phred.specs.Phred.{phred_to_ln_error_prob}
use Rattle.phred.specs.declared.LogProbability.{LogProbability}
use Rattle.rate_tables.specs.declared.adjusted.AdjustedProbabilityTables.{AdjustedProbabilityTables}
use Rattle.rate_tables.specs.Adjusted.{adjusted_tables}
use Rattle.tie_rules.specs.declared.tie_rule.TieRule.{TieRule}
use Rattle.tie_rules.specs.Lanes.{no_lane, lane_of_byte, counted}
use Rattle.tie_rules.proofs.Lanes.{lanes_at, in_lane}
use Rattle.base_builder.specs.declared.builder.ConsensusBaseBuilder.{ConsensusBaseBuilder}
use Rattle.lane_sums.specs.Observation.{moved_by, value_of, count_of}
use Rattle.base_builder.specs.Builder.{total, cleared, new_at, with_tie_rule, reset_of, sum_of, observed, entry_of, is_full, added_by, added, full_count}
use Rattle.base_builder.specs.History.{Event, add, reset, set_tie_rule, step, run, after}
use Rattle.base_builder_laws.specs.Counted.{CountedObservation, counted_since, values_of, kahan, times_counted}

-- the builder holds what these observations leave
pub record Holds (t : AdjustedProbabilityTables) (os : List CountedObservation) (b : ConsensusBaseBuilder) : Type 0 where
  pub sums : (i : ℕ) → i < 4 → sum_of b i ≡ kahan (values_of t i os)
  pub counts : (i : ℕ) → i < 4 → counted b.observations i ≡ times_counted i os
  pub all : times_counted 0 os + times_counted 1 os + times_counted 2 os + times_counted 3 os ≡ length os
  pub most : length os ≤ full_count

cleared_holds : (t : AdjustedProbabilityTables) (rule : TieRule) (pre : LogProbability) → Holds t [] (cleared rule pre)
unfolding cleared values_of kahan times_counted
cleared_holds t rule pre = record {
  sums = λ (i : ℕ) (h : i < 4). rw (get_or-replicate 4 i plus_zero nan h);
  counts = λ (i : ℕ) (h : i < 4). get_or-replicate 4 i 0 0 h;
  all = refl;
  most = omega arith;
}

-- a lane is not observed more often than all are
times_most : (i : ℕ) (os : List CountedObservation) → times_counted i os ≤ length os
unfolding times_counted
times_most i [] = omega arith
times_most i (o ∷ os) =
    let m = times_most i os in
    choice (λ (n : ℕ). n ≤ length (o ∷ os)) (eqb i o.at) (times_counted i os + 1) (times_counted i os) (λ _. omega arith) (λ _. omega arith)

-- one more is counted in 32 bits as it is
one_more : (c : Bool) (n : ℕ) → n < full_count → (if c then (n + 1) % 2 ^ 32 else n) ≡ (if c then n + 1 else n)
one_more true n h = omega arith
one_more false n h = refl

-- the four together are one more
one_in_all : (k q : ℕ) (os : List CountedObservation) → k < 4
    → times_counted 0 os + times_counted 1 os + times_counted 2 os + times_counted 3 os ≡ length os
    → let o : CountedObservation = record { at = k; quality = q } in times_counted 0 (o ∷ os) + times_counted 1 (o ∷ os) + times_counted 2 (o ∷ os) + times_counted 3 (o ∷ os) ≡ length (o ∷ os)
unfolding times_counted
one_in_all zero q os h e = omega arith
one_in_all (suc zero) q os h e = omega arith
one_in_all (suc (suc zero)) q os h e = omega arith
one_in_all (suc (suc (suc zero))) q os h e = omega arith
one_in_all (suc (suc (suc (suc k)))) q os h e = absurd (omega arith)

module _ (t : AdjustedProbabilityTables) (os : List CountedObservation) (b : ConsensusBaseBuilder) (had : Holds t os b) where
  full_is : is_full b ≡ leb full_count (length os)
  unfolding is_full total
  full_is =
      let e : total b.observations ≡ length os =
      rw (had.counts 0 (omega arith), had.counts 1 (omega arith), had.counts 2 (omega arith), had.counts 3 (omega arith)) had.all in
      ap (leb full_count) e

  observed_holds : (k q : ℕ) → k < 4 → length os < full_count
      → Holds t (record { at = k; quality = q } ∷ os) (observed (get_or t.correct (entry_of q) nan) (get_or t.error_per_alt (entry_of q) nan) k b)
  unfolding observed values_of kahan times_counted count_of
  observed_holds k q h f =
      let c = get_or t.correct (entry_of q) nan in
      let e = get_or t.error_per_alt (entry_of q) nan in
      record {
        sums = λ (i : ℕ) (l : i < 4).
            rw (lanes_at (λ j. (moved_by (value_of c e k j) (sum_of b j)).lane) nan i l, lanes_at (λ j. (moved_by (value_of c e k j) (sum_of b j)).compensation) nan i l, had.sums i l);
        counts = λ (i : ℕ) (l : i < 4).
            let m = times_most i os in
            lanes_at (λ j. count_of (counted b.observations j) k j) 0 i l
            ∙ rw (had.counts i l) (one_more (eqb i k) (times_counted i os) (omega arith));
        all = one_in_all k q os h had.all;
        most = omega arith;
      }

-- neither of two
neither : (a b : Bool) → (a || b) ≡ false → (a ≡ false) × (b ≡ false)
neither true b h = absurd (true≢false h)
neither false b h = (refl, h)

-- both go the same way
together : (t : AdjustedProbabilityTables) (c : Bool) (os os' : List CountedObservation) (b b' : ConsensusBaseBuilder) → Holds t os b → (c ≡ false → Holds t os' b') → Holds t (if c then os else os') (if c then b else b')
together t true os os' b b' h f = h
together t false os os' b b' h f = f refl

module _ (t : AdjustedProbabilityTables) where
  added_holds : (base q : ℕ) (os : List CountedObservation) (b : ConsensusBaseBuilder) → Holds t os b
      → Holds t
      (if eqb (lane_of_byte base) no_lane || leb full_count (length os) then os else record { at = lane_of_byte base; quality = q } ∷ os)
      (added t.correct t.error_per_alt base q b)
  unfolding added added_by
  added_holds base q os b had =
      rw (full_is t os b had)
      (together t (eqb (lane_of_byte base) no_lane || leb full_count (length os)) os _ b _ had
      (λ e.
      let n = neither (eqb (lane_of_byte base) no_lane) (leb full_count (length os)) e in
      observed_holds t os b had (lane_of_byte base) q (in_lane base n.0) (leb-false full_count (length os) n.1)))

  run_holds : (es : List Event) (os : List CountedObservation) (b : ConsensusBaseBuilder) → Holds t os b → Holds t (counted_since os es) (run t es b)
  unfolding counted_since run step reset_of with_tie_rule
  run_holds [] os b had = had
  run_holds (add base q ∷ es) os b had = run_holds es _ (added t.correct t.error_per_alt base q b) (added_holds base q os b had)
  run_holds (reset ∷ es) os b had = run_holds es [] (reset_of b) (cleared_holds t b.tie_rule b.ln_error_pre_umi)
  run_holds (set_tie_rule rule ∷ es) os b had = run_holds es os (with_tie_rule rule b) (record { sums = had.sums; counts = had.counts; all = had.all; most = had.most })

-- after any list, from any builder at all that was reset
pub reset_holds : (t : AdjustedProbabilityTables) (es : List Event) (b : ConsensusBaseBuilder) → Holds t (counted_since [] es) (run t (reset ∷ es) b)
unfolding run step reset_of
reset_holds t es b = run_holds t es [] (reset_of b) (cleared_holds t b.tie_rule b.ln_error_pre_umi)

-- after any list, from a new builder at any two rates under either rule
pub after_holds : (pre post : ℕ) (rule : TieRule) (es : List Event) → Holds (adjusted_tables post) (counted_since [] es) (after pre post rule es)
unfolding after new_at with_tie_rule cleared
after_holds pre post rule es =
    let t = adjusted_tables post in
    let new = cleared_holds t rule (record { 0 = phred_to_ln_error_prob pre }) in
    run_holds t es [] (with_tie_rule rule (new_at pre)) new
