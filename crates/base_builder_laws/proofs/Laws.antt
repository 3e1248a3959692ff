-- The laws of every list of events. Assumes nothing.
use mathlib.Core.Path.{◌≡◌, refl, sym, ap, ◌∙◌}
use mathlib.Core.List.{List, [], ◌∷◌}
use Prim.Native.Nat.{ℕ, ◌<◌}
use native.Mathlib.Omega.{arith}
use lib.Dec.{eqb}
use lib.ListN.{length}
use lib.Ieee.{Float, lt, le, eq, sub, neg, div, is_nan, of_bits}
use borrow.Author.Tests.{eqb-true}
use Rattle.std.specs.Prelude.{Option, Some, None, option_and_then, unwrap_or}
use Rattle.float.specs.Ops.{plus_zero}
use Rattle.float.specs.Methods.{abs_of}
use Rattle.words.proofs.Cases.{choice}
use Rattle.rate_tables.specs.declared.adjusted.AdjustedProbabilityTables.{AdjustedProbabilityTables}
use Rattle.rate_tables.specs.Adjusted.{adjusted_tables}
use Rattle.gap_tables.specs.Gaps.{gap_tables}
use Rattle.tie_rules.specs.declared.lead.Lead.{Lead}
use Rattle.tie_rules.specs.declared.tie_rule.TieRule.{TieRule}
use Rattle.tie_rules.specs.declared.tie_rule.TieRule.TheVariants.{UlpRelative, FgbioCompat}
use Rattle.tie_rules.specs.Lanes.{lane, no_lane, base_of}
use Rattle.words.specs.Claims.{all_below}
use Rattle.tie_rules.specs.Scan.{scan, new_lead, cancelled}
use Rattle.tie_rules.specs.UniqueMax.{lane_number}
use Rattle.tie_rules.specs.Ties.{fgbio_tie, fgbio_taken, fgbio_step, ulp_step, unseen, ties_with, ulp_tie, untied, fgbio_unique_max_index, unique_max_index, not_minus_infinity, unique_max_index_with}
use Rattle.lane_calls.specs.declared.call.Call.{Call}
use Rattle.lane_calls.specs.Calls.{no_call}
use Rattle.base_builder.specs.declared.builder.ConsensusBaseBuilder.{ConsensusBaseBuilder}
use Rattle.lane_sums.specs.declared.observation.Sum.{Sum}
use Rattle.base_builder.specs.Builder.{total, contributions_of}
use Rattle.base_builder.specs.Calls.{unanimous_of, multibase_of, call_full_of, long_way, call_of}
use Rattle.base_builder.specs.History.{Event, after}
use Rattle.base_builder_laws.specs.Counted.{CountedObservation, counted_since, values_of, kahan}
use Rattle.base_builder_laws.specs.Agrees.{Agrees}
use Rattle.base_builder.specs.History.{ruled}
use Rattle.base_builder_laws.specs.Laws.{Laws}
use Rattle.base_builder_laws.proofs.Run.{Holds, after_holds}
use Rattle.base_builder_laws.proofs.Replies.{full_base}
use Rattle.base_builder_laws.proofs.SameBase.{unanimous_agrees, multibase_agrees}

-- four lanes of 0 tie under either rule
module _ (xs : List Float) (a : lane xs 0 ≡ plus_zero) (c : lane xs 1 ≡ plus_zero) (g : lane xs 2 ≡ plus_zero) (t : lane xs 3 ≡ plus_zero) where
  -- the lane that a scan ends with
  abbrev named : Option Lead → ℕ
  named r = lane_number (option_and_then (λ (l : Lead). l.at) r)

  -- another 0 after the first cancels it
  fgbio_at : named (scan fgbio_step unseen xs 4) ≡ no_lane
  unfolding scan fgbio_step fgbio_taken fgbio_tie abs_of lt le sub is_nan of_bits
  fgbio_at =
      let zero : Lead = new_lead plus_zero 0 in
      let first : scan fgbio_step unseen xs 1 ≡ Some zero = ap (fgbio_step unseen 0) a in
      let second : scan fgbio_step unseen xs 2 ≡ Some (cancelled zero) = ap (λ (r : Option Lead). fgbio_step r 1 (lane xs 1)) first ∙ ap (fgbio_step (Some zero) 1) c in
      let third : scan fgbio_step unseen xs 3 ≡ Some (cancelled zero) = ap (λ (r : Option Lead). fgbio_step r 2 (lane xs 2)) second ∙ ap (fgbio_step (Some (cancelled zero)) 2) g in
      ap (λ (r : Option Lead). named (fgbio_step r 3 (lane xs 3))) third ∙ ap (λ (x : Float). named (fgbio_step (Some (cancelled zero)) 3 x)) t

  no_lane_lem : (rule : TieRule) → unique_max_index_with xs rule ≡ no_lane
  unfolding unique_max_index_with fgbio_unique_max_index not_minus_infinity unique_max_index scan ulp_step untied ties_with ulp_tie all_below lt eq neg div of_bits
  no_lane_lem UlpRelative = rw (a, c, g, t)
  no_lane_lem FgbioCompat = ap (not_minus_infinity xs) fgbio_at

none : (os : List CountedObservation) → length os ≡ 0 → os ≡ []
none [] e = refl
none (o ∷ os) e = absurd (omega arith)

-- what agrees with the long calculation leads to its base
or_same : (r : Option Call) (c full : Call) → Agrees r full → c.base ≡ full.base → (unwrap_or r c).base ≡ full.base
or_same (Some short) c full a e = a
or_same None c full a e = e

-- of a builder that holds what its observations leave
module _ (t : AdjustedProbabilityTables) (os : List CountedObservation) (b : ConsensusBaseBuilder) (had : Holds t os b) where
  in_all : total b.observations ≡ length os
  unfolding total
  in_all = rw (had.counts 0 (omega arith), had.counts 1 (omega arith), had.counts 2 (omega arith), had.counts 3 (omega arith)) had.all

  nothing_counted : contributions_of b ≡ 0 → ruled b ≡ no_lane
  unfolding contributions_of values_of kahan
  nothing_counted e =
      let n = in_all in
      let most = had.most in
      let nil = none os (omega arith) in
      let at : (i : ℕ) → i < 4 → lane b.likelihoods i ≡ plus_zero =
      λ i h. ap (λ (s : Sum). s.lane) (had.sums i h ∙ ap (λ (l : List CountedObservation). kahan (values_of t i l)) nil) in
      no_lane_lem b.likelihoods (at 0 (omega arith)) (at 1 (omega arith)) (at 2 (omega arith)) (at 3 (omega arith)) b.tie_rule

  -- the base of its call is that of the rule's lane
  pub held_base : (pre : ℕ) → (call_of (gap_tables pre) b).base ≡ base_of (ruled b)
  unfolding call_of long_way
  held_base pre =
      let full = call_full_of b in
      choice (λ (c : Call). c.base ≡ base_of (ruled b)) (eqb (contributions_of b) 0) no_call _
      (λ h. ap base_of (sym (nothing_counted (eqb-true (contributions_of b) 0 h))))
      (λ _.
      or_same (unanimous_of (gap_tables pre) b) (unwrap_or (multibase_of b) full) full (unanimous_agrees t os b had pre)
      (or_same (multibase_of b) full full (multibase_agrees b) refl)
      ∙ full_base b)

pub laws : (pre post : ℕ) (rule : TieRule) (es : List Event) → Laws pre post rule es
laws pre post rule es =
    let t = adjusted_tables post in
    let os = counted_since [] es in
    let b = after pre post rule es in
    let had = after_holds pre post rule es in
    record {
      own_values = had.sums;
      count = had.counts;
      together = in_all t os b had;
      most = rw (in_all t os b had) had.most;
      call_base = held_base t os b had pre;
      nothing_counted = nothing_counted t os b had;
    }
