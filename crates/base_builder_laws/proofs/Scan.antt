-- A lane above all others that none after it cancels is the one that a scan ends with; one law for both rules. Assumes nothing.
use mathlib.Core.Path.{◌≡◌, ap, ◌∙◌, subst}
use mathlib.Core.Bool.{true, false}
use mathlib.Core.Logic.{inl, inr, ◌≢◌}
use mathlib.Core.List.{List}
use Prim.Native.Nat.{ℕ, zero, suc, ◌≤◌, ◌<◌}
use native.Mathlib.Nat.{eq-or-lt_of_le, le_of_suc-le-suc}
use native.Mathlib.Omega.{arith}
use lib.Ieee.{Float, lt, is_nan}
use Rattle.std.specs.Prelude.{Option, Some, None}
use Rattle.words.proofs.Cases.{choice}
use Rattle.float.proofs.Order.{lt_asym, lt_numbers}
use Rattle.tie_rules.specs.declared.lead.Lead.{Lead}
use Rattle.tie_rules.specs.Lanes.{lane}
use Rattle.tie_rules.specs.Scan.{scan, new_lead, cancelled}
use Rattle.tie_rules.specs.Ties.{fgbio_tie, fgbio_taken, fgbio_step, ulp_step}

-- What makes w win a scan, where `led k` says that lane k leads with it: until it comes the running maximum is under it; it takes over; and a lower value
-- that is free of it leaves it.
pub record Wins {A : Type 0} (step : A → ℕ → Float → A) (led : ℕ → A) (w : Float) (Under : A → Type 0) (Free : Float → Type 0) : Type 0 where
  pub stays_under : (r : A) (k : ℕ) (x : Float) → lt x w ≡ true → Under r → Under (step r k x)
  pub takes : (r : A) (k : ℕ) → Under r → step r k w ≡ led k
  pub stays : (i k : ℕ) (x : Float) → lt x w ≡ true → Free x → step (led i) k x ≡ led i

-- the running maximum, where there is one, is below w
abbrev pub FgbioUnder : Float → Option Lead → Type 0
FgbioUnder w None = Unit {0}
FgbioUnder w (Some l) = lt l.best w ≡ true

fgbio_stays_under : (w : Float) (r : Option Lead) (k : ℕ) (x : Float) → lt x w ≡ true → FgbioUnder w r → FgbioUnder w (fgbio_step r k x)
unfolding fgbio_step fgbio_taken
fgbio_stays_under w None k x h u = choice (FgbioUnder w) (is_nan x) None (Some (new_lead x k)) (λ _. u) (λ _. h)
fgbio_stays_under w (Some l) k x h u =
    let P : Lead → Type 0 = λ m. lt m.best w ≡ true in
    choice (FgbioUnder w) (is_nan x) (Some l) _ (λ _. u)
    (λ _. choice P (lt l.best x) (new_lead x k) _ (λ _. h) (λ _. choice P (fgbio_tie x l.best) (cancelled l) l (λ _. u) (λ _. u)))

fgbio_takes : (w : Float) → is_nan w ≡ false → (r : Option Lead) (k : ℕ) → FgbioUnder w r → fgbio_step r k w ≡ Some (new_lead w k)
unfolding fgbio_step fgbio_taken
fgbio_takes w n None k u = rw n
fgbio_takes w n (Some l) k u = rw (n, u)

pub fgbio_wins : (w : Float) → is_nan w ≡ false → Wins fgbio_step (λ k. Some (new_lead w k)) w (FgbioUnder w) (λ x. fgbio_tie x w ≡ false)
unfolding fgbio_step fgbio_taken
fgbio_wins w n = record {
  stays_under = fgbio_stays_under w;
  takes = fgbio_takes w n;
  stays = λ i k x h f. rw ((lt_numbers x w h).0, lt_asym x w h, f);
}

-- the running maximum is below w
abbrev pub UlpUnder : Float → Lead → Type 0
UlpUnder w l = lt l.best w ≡ true

pub ulp_wins : (w : Float) → Wins ulp_step (new_lead w) w (UlpUnder w) (λ _. Unit {0})
unfolding ulp_step
ulp_wins w = record {
  stays_under = λ l k x h u. choice (UlpUnder w) (lt l.best x) (new_lead x k) l (λ _. h) (λ _. u);
  takes = λ l k u. rw u;
  stays = λ i k x h f. rw (lt_asym x w h);
}

module _ {A : Type 0} (step : A → ℕ → Float → A) (led : ℕ → A) (xs : List Float) (i : ℕ) (Under : A → Type 0) (Free : Float → Type 0) (law : Wins step led (lane xs i) Under Free) (r : A) (start : Under r) where
  -- every other lane below n is below lane i, and a later one is free of it
  abbrev pub Beats : ℕ → Type 0
  Beats n = (j : ℕ) → j < n → j ≢ i → (lt (lane xs j) (lane xs i) ≡ true) × (i < j → Free (lane xs j))

  before : (n : ℕ) → n ≤ i → Beats n → Under (scan step r xs n)
  unfolding scan
  before zero h b = start
  before (suc n) h b =
      law.stays_under (scan step r xs n) n (lane xs n) (b n (omega arith) (omega arith)).0
      (before n (omega arith) (λ (j : ℕ) (l : j < n) (d : j ≢ i). b j (omega arith) d))

  pub wins : (n : ℕ) → i < n → Beats n → scan step r xs n ≡ led i
  unfolding scan
  wins zero h b = absurd (omega arith)
  wins (suc n) h b = elim (eq-or-lt_of_le (le_of_suc-le-suc h)) [
    | inl e ↦ subst (λ (k : ℕ). step (scan step r xs k) k (lane xs k) ≡ led i) e
        (law.takes (scan step r xs i) i (before i (omega arith) (λ (j : ℕ) (l : j < i) (d : j ≢ i). b j (omega arith) d)))
    | inr l ↦
        ap (λ (s : A). step s n (lane xs n)) (wins n l (λ (j : ℕ) (m : j < n) (d : j ≢ i). b j (omega arith) d))
        ∙ law.stays i n (lane xs n) (b n (omega arith) (omega arith)).0 ((b n (omega arith) (omega arith)).1 l)
  ]
