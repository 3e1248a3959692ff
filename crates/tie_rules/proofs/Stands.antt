-- Where a tie rule names a lane, none is above it and no other ties with it as the rule tests it. Assumes nothing.
use mathlib.Core.Path.{◌≡◌, sym, subst}
use mathlib.Core.Bool.{true, false, ◌&&◌}
use mathlib.Core.List.{List}
use Prim.Native.Nat.{ℕ, ◌<◌}
use native.Mathlib.Omega.{arith}
use lib.Dec.{eqb}
use lib.Ieee.{Float, lt}
use lib.Ieee.Scale.{finite}
use borrow.Author.Tests.{eq-eqb}
use Rattle.std.specs.Prelude.{Option, Some, None}
use Rattle.words.proofs.Cases.{test, clash, choice, both}
use Rattle.tie_rules.specs.declared.tie_rule.TieRule.{TieRule}
use Rattle.tie_rules.specs.declared.tie_rule.TieRule.TheVariants.{UlpRelative, FgbioCompat}
use Rattle.tie_rules.specs.Lanes.{lane, no_lane}
use Rattle.tie_rules.specs.Lead.{lead_step}
use Rattle.tie_rules.specs.Scan.{scan, below_every}
use Rattle.tie_rules.specs.Ties.{untied, none_above, ulp_step, unique_max_index, unique_max_index_with}
use Rattle.tie_rules.specs.UniqueMax.{lane_number}
use Rattle.tie_rules.proofs.Lanes.{below_all}
use Rattle.tie_rules.proofs.Leading.{Held, Apart, ulp_knows, lead_knows, lead_apart}
use Rattle.tie_rules.proofs.Named.{lead_is}

module _ (xs : List Float) where
  -- the lane that leads holds the maximum
  held_at : (b : Float) (o : Option ℕ) → Held xs 4 b o → lane_number o < 4 → b ≡ lane xs (lane_number o)
  held_at b None k h = absurd (omega arith)
  held_at b (Some i) k h = k.1

  -- none is above it
  none_over : (b : Float) (i : ℕ) → ((j : ℕ) → j < 4 → lt b (lane xs j) ≡ false) → b ≡ lane xs i → none_above xs (lane xs i) ≡ true
  unfolding none_above
  none_over b i top e = below_all 4 _ (λ (j : ℕ) (l : j < 4). rw (← e, top j l))

  -- and, where each other is apart from it, none ties with it
  untied_at : (b : Float) (o : Option ℕ) → Held xs 4 b o → Apart xs 4 b o → lane_number o < 4 → untied FgbioCompat xs (lane_number o) (lane xs (lane_number o)) ≡ true
  unfolding untied
  untied_at b None k a h = absurd (omega arith)
  untied_at b (Some i) k a h =
      below_all 4 _ (λ (j : ℕ) (l : j < 4). test (eqb i j) (λ t. rw t) (λ d. rw (d, ← k.1, a j l (λ (q : j ≡ i). clash d (eq-eqb i j (sym q))))))

  -- no other lane ties with lane i as the rule tests it, and none is above it
  abbrev Stands : TieRule → ℕ → Type 0
  Stands rule i = (untied rule xs i (lane xs i) ≡ true) × (none_above xs (lane xs i) ≡ true)

  pub named_stands : (rule : TieRule) → unique_max_index_with xs rule < 4 → Stands rule (unique_max_index_with xs rule)
  unfolding unique_max_index_with unique_max_index
  named_stands FgbioCompat =
      let l = scan lead_step below_every xs 4 in
      let k = lead_knows xs 4 (omega arith) in
      rw (← lead_is xs) (λ (h : lane_number l.at < 4). (untied_at l.best l.at k.place (lead_apart xs) h, none_over l.best _ k.top (held_at l.best l.at k.place h)))
  named_stands UlpRelative =
      let l = scan ulp_step below_every xs 4 in
      let k = ulp_knows xs in
      choice (λ i. i < 4 → Stands UlpRelative i) (finite l.best && untied UlpRelative xs (lane_number l.at) l.best) (lane_number l.at) no_lane
      (λ t h. let e = held_at l.best l.at k.place h in
      (subst (λ (y : Float). untied UlpRelative xs (lane_number l.at) y ≡ true) e (both (finite l.best) _ t).1, none_over l.best _ k.top e))
      (λ _ h. absurd (omega arith))
