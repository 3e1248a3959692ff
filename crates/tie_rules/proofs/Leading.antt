-- What is known of the lane that a scan which begins at -infinity ends with: under either rule no lane is above it, and under fgbio's none ties with it. Assumes nothing.
use mathlib.Core.Path.{◌≡◌, refl, sym, subst}
use mathlib.Core.Bool.{true, false, not}
use mathlib.Core.Logic.{inl, inr, ◌≢◌, ⊎_elim}
use mathlib.Core.List.{List}
use Prim.Native.Nat.{ℕ, zero, suc, ◌<◌, ◌≤◌}
use native.Mathlib.Nat.{eq-or-lt_of_le, le_of_suc-le-suc}
use native.Mathlib.Omega.{arith}
use lib.Ieee.{Float, nan, inf, fin, lt, le, eq, neg, add, sub, is_nan}
use borrow.Author.Tests.{lt-ltb, le-ltb}
use Rattle.std.specs.Prelude.{Option, Some, None, IfSome}
use Rattle.float.specs.Ops.{◌⊖◌, epsilon}
use Rattle.float.specs.Methods.{abs_of}
use Rattle.words.proofs.Cases.{test, clash, refuted, choice, and-false}
use Rattle.float.proofs.Order.{lt_irrefl, lt_trans, lt_numbers, le_or, not_lt_le, eq_lt}
use Rattle.float.proofs.Turned.{turned}
use Rattle.tie_rules.specs.declared.lead.Lead.{Lead}
use Rattle.tie_rules.specs.declared.tie_rule.TieRule.TheVariants.{FgbioCompat}
use Rattle.tie_rules.specs.Lanes.{lane}
use Rattle.tie_rules.specs.Lead.{lead_step}
use Rattle.tie_rules.specs.Scan.{scan, new_lead, cancelled, below_every}
use Rattle.tie_rules.specs.Ties.{fgbio_tie, fgbio_tested, ties_with, ulp_step}

-- what each lane keeps holds of a scan
pub scan_keeps : {A : Type 0} (step : A → ℕ → Float → A) (xs : List Float) (P : ℕ → A → Type 0) → ((n : ℕ) (r : A) → n < 4 → P n r → P (suc n) (step r n (lane xs n))) → (r : A) → P 0 r → (n : ℕ) → n ≤ 4 → P n (scan step r xs n)
unfolding scan
scan_keeps step xs P f r h zero m = h
scan_keeps step xs P f r h (suc n) m = f n (scan step r xs n) (omega arith) (scan_keeps step xs P f r h n (omega arith))

-- ---- a NaN, and a value above the running maximum

-- a NaN is above nothing
pub nan_above : (x y : Float) → is_nan x ≡ true → lt y x ≡ false
nan_above x y h = refuted (lt y x) (λ t. clash (lt_numbers y x t).1 h)

-- and nothing later is within 2^-52 of it
nan_earlier : (x y : Float) → is_nan x ≡ true → fgbio_tie y x ≡ false
unfolding fgbio_tie abs_of is_nan sub add neg le lt eq
nan_earlier nan nan h = refl
nan_earlier nan (inf s) h = refl
nan_earlier nan (fin s m e) h = refl
nan_earlier (inf s) y h = clash refl h
nan_earlier (fin s m e) y h = clash refl h

-- a number that y is not below is below what y is below
over : (x y z : Float) → lt y x ≡ true → is_nan z ≡ false → lt y z ≡ false → lt z x ≡ true
over x y z h n k = ⊎_elim (λ u. lt_trans z y x u h) (λ u. eq_lt z y x u h) (le_or z y (not_lt_le y z (lt_numbers y x h).0 n k))

-- what y is not below, nothing above y is below
still : (x y z : Float) → lt y x ≡ true → lt y z ≡ false → lt x z ≡ false
still x y z h k = refuted (lt x z) (λ t. clash k (lt_trans y x z h t))

-- ---- claims on every lane below n

-- one lane more: it, or one before
one_more : (P : ℕ → Type 0) (n : ℕ) → P n → ((j : ℕ) → j < n → P j) → (j : ℕ) → j < suc n → P j
one_more P n p f j h = elim (eq-or-lt_of_le (le_of_suc-le-suc h)) [ inl e ↦ subst P (sym e) p | inr l ↦ f j l ]

module _ (xs : List Float) where
  -- lane i is one of the first n, and holds b
  abbrev pub Held : ℕ → Float → Option ℕ → Type 0
  Held n b o = IfSome o (λ i. (i < n) × (b ≡ lane xs i))

  held_more : (n : ℕ) (b : Float) (o : Option ℕ) → Held n b o → Held (suc n) b o
  held_more n b None h = h
  held_more n b (Some i) h = (omega (arith, h.0), h.1)

  -- no lane so far is above the maximum, which the lane that leads holds
  pub record Knows (n : ℕ) (l : Lead) : Type 0 where
    pub top : (j : ℕ) → j < n → lt l.best (lane xs j) ≡ false
    pub place : Held n l.best l.at

  module _ (n : ℕ) (l : Lead) (k : Knows n l) where
    abbrev x : Float
    x = lane xs n

    rises : lt l.best x ≡ true → Knows (suc n) (new_lead x n)
    rises b = record { top = one_more (λ j. lt x (lane xs j) ≡ false) n (lt_irrefl x) (λ j h. still x l.best (lane xs j) b (k.top j h)); place = (omega arith, refl) }

    above : lt l.best x ≡ false → (j : ℕ) → j < suc n → lt l.best (lane xs j) ≡ false
    above b = one_more (λ j. lt l.best (lane xs j) ≡ false) n b k.top

    stays : lt l.best x ≡ false → Knows (suc n) l
    stays b = record { top = above b; place = held_more n l.best l.at k.place }

    ulp_more : Knows (suc n) (ulp_step l n x)
    unfolding ulp_step
    ulp_more = choice (Knows (suc n)) (lt l.best x) (new_lead x n) l rises stays

    lead_more : Knows (suc n) (lead_step l n x)
    unfolding lead_step
    lead_more =
        choice (Knows (suc n)) (lt l.best x) (new_lead x n) _ rises
        (λ b. choice (Knows (suc n)) (le (l.best ⊖ x) epsilon) (cancelled l) l (λ _. record { top = above b; place = tt }) (λ _. stays b))

  unknown : Knows 0 below_every
  unknown = record { top = λ j h. absurd (omega arith); place = tt }

  pub ulp_knows : Knows 4 (scan ulp_step below_every xs 4)
  ulp_knows = scan_keeps ulp_step xs Knows (λ n l _ k. ulp_more n l k) below_every unknown 4 (omega arith)

  pub lead_knows : (n : ℕ) → n ≤ 4 → Knows n (scan lead_step below_every xs n)
  lead_knows = scan_keeps lead_step xs Knows (λ n l _ k. lead_more n l k) below_every unknown

  -- ---- FgbioCompat

  -- no lane but i, of the value b, ties with it as the rule tests it
  abbrev pub Apart : ℕ → Float → Option ℕ → Type 0
  Apart n b o = IfSome o (λ i. (j : ℕ) → j < n → j ≢ i → ties_with FgbioCompat i b j (lane xs j) ≡ false)

  module _ (n : ℕ) (l : Lead) (k : Knows n l) where
    -- lane n takes over: every number before it is below it
    takes : lt l.best (lane xs n) ≡ true → Apart (suc n) (lane xs n) (Some n)
    unfolding ties_with fgbio_tested
    takes b =
        let x = lane xs n in
        one_more (λ j. j ≢ n → ties_with FgbioCompat n x j (lane xs j) ≡ false) n (λ d. absurd (d refl))
        (λ j h d. let y = lane xs j in
        rw (le-ltb n j (omega arith))
        (test (is_nan y) (λ m. rw (nan_earlier y x m) (and-false (not (lt y x)))) (λ m. rw (over x l.best y b m (k.top j h)))))

    -- lane n leaves the maximum, which is more than 2^-52 above it
    leaves : lt l.best (lane xs n) ≡ false → le (l.best ⊖ lane xs n) epsilon ≡ false → (o : Option ℕ) → Held n l.best o → Apart n l.best o → Apart (suc n) l.best o
    unfolding ties_with fgbio_tested fgbio_tie
    leaves b t None h a = a
    leaves b t (Some i) h a =
        let x = lane xs n in
        one_more (λ j. j ≢ i → ties_with FgbioCompat i l.best j (lane xs j) ≡ false) n
        (λ _. rw (lt-ltb i n h.0, turned x l.best epsilon b, t) (and-false (not (lt l.best x)))) a

    apart_more : Apart n l.best l.at → let m = lead_step l n (lane xs n) in Apart (suc n) m.best m.at
    unfolding lead_step
    apart_more a =
        let x = lane xs n in
        choice (λ (m : Lead). Apart (suc n) m.best m.at) (lt l.best x) (new_lead x n) _ takes
        (λ b. choice (λ (m : Lead). Apart (suc n) m.best m.at) (le (l.best ⊖ x) epsilon) (cancelled l) l (λ _. tt) (λ t. leaves b t l.at k.place a))

  pub lead_apart : let l = scan lead_step below_every xs 4 in Apart 4 l.best l.at
  lead_apart = (scan_keeps lead_step xs (λ n l. Knows n l × Apart n l.best l.at) (λ n l _ k. (lead_more n l k.0, apart_more n l k.0 k.1)) below_every (unknown, tt) 4 (omega arith)).1
