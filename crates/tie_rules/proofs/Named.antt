-- The lane that a rule names, by the scan that is run for it. Assumes nothing.
use mathlib.Core.Path.{◌≡◌, refl, ap, ◌∙◌}
use mathlib.Core.Bool.{true, false, ◌&&◌}
use mathlib.Core.Logic.{◌⊎◌, inl, inr, ⊎_elim}
use mathlib.Core.List.{List}
use Prim.Native.Nat.{ℕ, zero, suc, ◌<◌, ◌≤◌}
use native.Mathlib.Omega.{arith}
use lib.Ieee.{Float, nan, inf, fin, lt, le, eq, neg, add, sub, div, is_nan, of_bits}
use lib.Ieee.Scale.{finite}
use borrow.Author.Tests.{lt-ltb}
use Rattle.std.specs.Prelude.{Option, Some, None, IfSome, option_and_then}
use Rattle.float.specs.Ops.{◌⊖◌, epsilon}
use Rattle.float.specs.Methods.{abs_of}
use Rattle.words.proofs.Cases.{test, clash, choice}
use Rattle.float.proofs.Order.{lt_numbers, lt_trans, lt_not_eq}
use Rattle.float.proofs.Turned.{turned}
use Rattle.phred.specs.Phred.{ln_zero}
use Rattle.tie_rules.specs.declared.lead.Lead.{Lead}
use Rattle.tie_rules.specs.Lanes.{lane, no_lane}
use Rattle.tie_rules.specs.Lead.{lead_step}
use Rattle.tie_rules.specs.Scan.{scan, new_lead, cancelled, below_every}
use Rattle.tie_rules.specs.declared.tie_rule.TieRule.TheVariants.{UlpRelative, FgbioCompat}
use Rattle.tie_rules.specs.Ties.{fgbio_tie, fgbio_taken, fgbio_step, unseen, ulp_step, untied, fgbio_unique_max_index, unique_max_index, not_minus_infinity, unique_max_index_with}
use Rattle.tie_rules.specs.UniqueMax.{lane_number, named_lane}
use Rattle.tie_rules.proofs.Leading.{nan_above, Held, ulp_knows, lead_knows}

-- an answer below 4 is the one that has its number
pub named : (o : Option ℕ) → IfSome o (λ i. i < 4) → o ≡ named_lane (lane_number o)
unfolding named_lane
named None h = refl
named (Some i) h = rw (lt-ltb i 4 h)

-- what a function promises of the answer that has a lane's number
pub record Answer (o : Option ℕ) (n : ℕ) : Type 0 where
  pub answer : o ≡ named_lane n
  pub lane : lane_number o ≡ n
  pub inside : IfSome o (λ i. i < 4)

pub answered : (o : Option ℕ) (n : ℕ) → IfSome o (λ i. i < 4) → lane_number o ≡ n → Answer o n
answered o n h e = record { answer = named o h ∙ ap named_lane e; lane = e; inside = h }

-- ---- values at the start of a scan

-- a lane of NaN or of -infinity, met at the start, is passed by
passes : (n : ℕ) (x : Float) → lt ln_zero x ≡ false → lead_step below_every n x ≡ below_every
unfolding lead_step lt le eq sub add neg div of_bits
passes n nan h = refl
passes n (inf true) h = refl
passes n (inf false) h = clash h refl
passes n (fin s m e) h = clash h refl

-- what is a number and not above -infinity is -infinity
is_lowest : (x : Float) → is_nan x ≡ false → lt ln_zero x ≡ false → x ≡ ln_zero
unfolding lt is_nan neg div of_bits
is_lowest nan n h = clash n refl
is_lowest (inf true) n h = refl
is_lowest (inf false) n h = clash h refl
is_lowest (fin s m e) n h = clash h refl

-- it is equal to itself, and does not tie with itself
lowest_itself : (eq ln_zero ln_zero ≡ true) × (fgbio_tie ln_zero ln_zero ≡ false)
unfolding fgbio_tie abs_of le lt eq sub add neg div of_bits
lowest_itself = (refl, refl)

-- no value is near NaN
nan_apart : (x y : Float) → is_nan x ≡ true → le (y ⊖ x) epsilon ≡ false
unfolding is_nan le lt eq sub add neg of_bits
nan_apart nan nan h = refl
nan_apart nan (inf s) h = refl
nan_apart nan (fin s m e) h = refl
nan_apart (inf s) y h = clash refl h
nan_apart (fin s m e) y h = clash refl h

-- ---- fgbio's scan and the one that is run

-- with a lane that leads, both take the same step
same_step : (l : Lead) (n : ℕ) (x : Float) → fgbio_step (Some l) n x ≡ Some (lead_step l n x)
unfolding fgbio_step fgbio_taken lead_step fgbio_tie
same_step l n x =
    test (is_nan x) (λ a. rw (a, nan_above x l.best a, nan_apart x l.best a))
    (λ a. test (lt l.best x) (λ b. rw (a, b)) (λ b. rw (a, b, turned x l.best epsilon b)))

module _ (xs : List Float) where
  abbrev pub at_of : Option Lead → Option ℕ
  at_of = option_and_then (λ l. l.at)

  -- no lane above -infinity was met: one that was taken is of -infinity
  record Low (r : Option Lead) (l : Lead) : Type 0 where
    begins : l ≡ below_every
    lowest : IfSome r (λ t. t.best ≡ ln_zero)
    place : IfSome (at_of r) (λ i. (i < 4) × (eq (lane xs i) ln_zero ≡ true))

  -- one was met: both scans have it
  record High (r : Option Lead) (l : Lead) : Type 0 where
    same : r ≡ Some l
    above : lt ln_zero l.best ≡ true

  module _ (n : ℕ) (inside : n < 4) where
    abbrev x : Float
    x = lane xs n

    -- a lane above -infinity is taken by both
    takes : (r : Option Lead) → lt ln_zero x ≡ true → IfSome r (λ t. t.best ≡ ln_zero) → fgbio_step r n x ≡ Some (new_lead x n)
    unfolding fgbio_step fgbio_taken
    takes None h k = rw (lt_numbers ln_zero x h).1
    takes (Some t) h k = rw ((lt_numbers ln_zero x h).1, k, h)

    -- any other by neither, or by the first scan as the first number
    kept : (r : Option Lead) → Low r below_every → lt ln_zero x ≡ false → Low (fgbio_step r n x) below_every
    unfolding fgbio_step fgbio_taken
    kept None k h =
        choice (λ r. Low r below_every) (is_nan x) None _ (λ _. k)
        (λ a. let e = is_lowest x a h in record { begins = refl; lowest = e; place = (inside, rw e lowest_itself.0) })
    kept (Some t) k h =
        choice (λ r. Low r below_every) (is_nan x) (Some t) _ (λ _. k)
        (λ a. let apart : fgbio_tie x t.best ≡ false = ap (λ y. fgbio_tie y t.best) (is_lowest x a h) ∙ ap (fgbio_tie ln_zero) k.lowest ∙ lowest_itself.1 in
        rw (ap (λ y. lt y x) k.lowest ∙ h, apart) k)

    low_more : (r : Option Lead) (l : Lead) → Low r l → Low (fgbio_step r n x) (lead_step l n x) ⊎ High (fgbio_step r n x) (lead_step l n x)
    unfolding lead_step
    low_more r l k =
        rw k.begins
        (test (lt ln_zero x)
        (λ h. inr (rw (takes r h k.lowest, h) (record { same = refl; above = h })))
        (λ h. inl (rw (passes n x h) (kept r (rw k.begins at k) h))))

    high_more : (r : Option Lead) (l : Lead) → High r l → High (fgbio_step r n x) (lead_step l n x)
    unfolding lead_step
    high_more r l k = record {
      same = rw k.same (same_step l n x);
      above = choice (λ (m : Lead). lt ln_zero m.best ≡ true) (lt l.best x) (new_lead x n) _ (lt_trans ln_zero l.best x k.above)
          (λ _. choice (λ (m : Lead). lt ln_zero m.best ≡ true) (le (l.best ⊖ x) epsilon) (cancelled l) l (λ _. k.above) (λ _. k.above));
    }

  alike : (n : ℕ) → n ≤ 4 → let r = scan fgbio_step unseen xs n in let l = scan lead_step below_every xs n in Low r l ⊎ High r l
  unfolding scan
  alike zero h = inl (record { begins = refl; lowest = tt; place = tt })
  alike (suc n) h =
      let r = scan fgbio_step unseen xs n in
      let l = scan lead_step below_every xs n in
      ⊎_elim (low_more n h r l) (λ k. inr (high_more n h r l k)) (alike n (omega arith))

  low_called : (o : Option ℕ) → IfSome o (λ i. (i < 4) × (eq (lane xs i) ln_zero ≡ true)) → no_lane ≡ not_minus_infinity xs (lane_number o)
  unfolding not_minus_infinity
  low_called None k = refl
  low_called (Some i) k = rw (lt-ltb i 4 k.0, k.1)

  high_called : (b : Float) (o : Option ℕ) → lt ln_zero b ≡ true → Held xs 4 b o → lane_number o ≡ not_minus_infinity xs (lane_number o)
  unfolding not_minus_infinity
  high_called b None h k = refl
  high_called b (Some i) h k = rw (lt-ltb i 4 k.0, ← k.1, (lt_not_eq ln_zero b h).1)

  pub lead_is : lane_number (scan lead_step below_every xs 4).at ≡ not_minus_infinity xs (fgbio_unique_max_index xs)
  unfolding fgbio_unique_max_index
  lead_is =
      let l = scan lead_step below_every xs 4 in
      let k = (lead_knows xs 4 (omega arith)).place in
      ⊎_elim
      (λ (a : Low (scan fgbio_step unseen xs 4) l). rw a.begins (low_called _ a.place))
      (λ (a : High (scan fgbio_step unseen xs 4) l). rw a.same (high_called l.best l.at a.above k))
      (alike 4 (omega arith))

  held_inside : (b : Float) (o : Option ℕ) → Held xs 4 b o → IfSome o (λ i. i < 4)
  held_inside b None k = tt
  held_inside b (Some i) k = k.0

  low_inside : (o : Option ℕ) → IfSome o (λ i. (i < 4) × (eq (lane xs i) ln_zero ≡ true)) → IfSome o (λ i. i < 4)
  low_inside None k = tt
  low_inside (Some i) k = k.0

  -- ---- the answers, by the scan that was run

  pub lead_answer : (l : Lead) → l ≡ scan lead_step below_every xs 4 → Answer l.at (unique_max_index_with xs FgbioCompat)
  unfolding unique_max_index_with
  lead_answer l e = rw e (answered _ _ (held_inside _ _ (lead_knows xs 4 (omega arith)).place) lead_is)

  pub fgbio_answer : (r : Option Lead) → r ≡ scan fgbio_step unseen xs 4 → Answer (at_of r) (fgbio_unique_max_index xs)
  unfolding fgbio_unique_max_index
  fgbio_answer r e =
      let l = scan lead_step below_every xs 4 in
      let inside = ⊎_elim
      (λ (a : Low (scan fgbio_step unseen xs 4) l). low_inside _ a.place)
      (λ (a : High (scan fgbio_step unseen xs 4) l). rw a.same (held_inside _ _ (lead_knows xs 4 (omega arith)).place))
      (alike 4 (omega arith)) in
      rw e (answered _ _ inside refl)

  module _ (l : Lead) (e : l ≡ scan ulp_step below_every xs 4) where
    pub ulp_answer : (i : ℕ) → l.at ≡ Some i → finite l.best ≡ true → untied UlpRelative xs i l.best ≡ true → Answer (Some i) (unique_max_index xs)
    unfolding unique_max_index
    ulp_answer i a f u =
        let k : Held xs 4 l.best l.at = rw e (ulp_knows xs).place in
        answered (Some i) _ (rw a at k).0 (rw (← e, a, f, u))

    pub ulp_none : (l.at ≡ None) ⊎ ((finite l.best && untied UlpRelative xs (lane_number l.at) l.best) ≡ false) → Answer None (unique_max_index xs)
    unfolding unique_max_index
    ulp_none (inl a) =
        answered None _ tt (rw (← e, a) (choice (λ (i : ℕ). no_lane ≡ i) (finite l.best && untied UlpRelative xs no_lane l.best) no_lane no_lane (λ _. refl) (λ _. refl)))
    ulp_none (inr f) = answered None _ tt (rw (← e, f))
