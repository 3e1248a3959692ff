-- With the tables of a pre-UMI rate the unanimous shortcut reads nothing outside them: where it replies, it names its lane, with a quality of 2 to 93.
-- Assumes nothing.
use mathlib.Core.Path.{◌≡◌, refl, ◌∙◌}
use mathlib.Core.Bool.{true, not}
use Prim.Native.Nat.{ℕ, ◌-◌, ◌≤◌, ◌<◌}
use native.Mathlib.Omega.{arith}
use lib.ListN.{get_or}
use lib.Ieee.{Float, nan, lt, le, of_bits}
use lib.Ieee.Bits.{is_true}
use lib.Ieee.Scale.{finite}
use borrow.Author.Tests.{le-ltb, le-leb, ne_eqb}
use Rattle.std.specs.Prelude.{Option, Some, None}
use Rattle.float.specs.Ops.{◌⊖◌, epsilon}
use Rattle.words.proofs.Cases.{both, choice, clash}
use Rattle.float.proofs.Order.{lt_trans, lt-le}
use Rattle.phred.specs.Phred.{phred_to_ln_error_prob}
use Rattle.phred.specs.Laws.{Level}
use Rattle.phred.proofs.Levels.{levels}
use Rattle.gap_tables.specs.declared.gaps.UnanimousGapTables.{UnanimousGapTables}
use Rattle.gap_tables.specs.Thresholds.{gap0, threshold_with}
use Rattle.gap_tables.specs.Gaps.{unanimous_quality_from_gap, threshold_at, cap_of, gap_tables}
use Rattle.words.proofs.Listed.{level_at}
use Rattle.gap_tables.proofs.OfARate.{thresholds_of_a_rate}
use Rattle.tie_rules.specs.Lanes.{base_of}
use Rattle.lane_calls.specs.Calls.{called}
use Rattle.lane_calls.specs.declared.call.Call.{Call}
use Rattle.unanimous_shortcut.specs.Search.{entry, partition_point}
use Rattle.unanimous_shortcut.proofs.PartitionPoint.{point_above, point_below}
use Rattle.unanimous_shortcut.specs.Unanimous.{leads, clears_cap, clears_lower, clears_upper, cap_reply, bracket_reply, gap_reply}

-- a reply names lane i, with a quality of 2 to 93
abbrev pub Names : ℕ → Option Call → Type 0
Names i (Some c) = (c.base ≡ base_of i) × Level c.qual.0
Names i None = Unit {0}

pub own_entry : (pre level : ℕ) → level ≤ 93 → get_or (gap_tables pre).thresholds level nan ≡ threshold_at pre level
unfolding gap_tables
own_entry pre level h = level_at (threshold_at pre) nan 94 level (omega arith)

own_cap : (pre : ℕ) → Level (gap_tables pre).cap
unfolding gap_tables cap_of
own_cap pre = levels (phred_to_ln_error_prob pre)

own_rise : (pre q r : ℕ) → q ≤ r → r < 94 → le (entry (gap_tables pre).thresholds q) (entry (gap_tables pre).thresholds r) ≡ true
own_rise pre q r h l =
    rw (own_entry pre q (omega arith), own_entry pre r (omega arith))
    (is_true (le (threshold_at pre q) (threshold_at pre r)) ((thresholds_of_a_rate pre).rise q r h))

-- every gap has a quality of 2 or more, so the threshold of level 2 is 0
own_two : (pre : ℕ) → entry (gap_tables pre).thresholds 2 ≡ gap0
unfolding threshold_with unanimous_quality_from_gap
own_two pre =
    own_entry pre 2 (omega arith)
    ∙ rw (le-leb 2 (unanimous_quality_from_gap (phred_to_ln_error_prob pre) gap0) (levels _).0)

epsilon_up : lt gap0 epsilon ≡ true
unfolding lt of_bits
epsilon_up = refl

-- not above the cap
most : (p cap : ℕ) → cap ≤ 93 → (cap < p → ⊥) → p ≤ 93
most p cap h n = omega arith

module _ (pre i : ℕ) (winner loser : Float) where
  abbrev t : UnanimousGapTables
  t = gap_tables pre

  cap_names : Names i (cap_reply t i winner loser)
  unfolding cap_reply
  cap_names =
      let cap = own_cap pre in
      rw (ne_eqb t.cap 0 (λ (e : t.cap ≡ 0). omega arith))
      (choice (Names i) (clears_cap t winner loser) (Some (called i t.cap)) None (λ _. (refl, cap)) (λ _. tt))

  bracket_names : (p : ℕ) → 3 ≤ p → p ≤ 93 → Names i (bracket_reply t i winner loser p)
  unfolding bracket_reply
  bracket_names p h k =
      let level : Level (p - 1) = (omega arith, omega arith) in
      rw (ne_eqb p 0 (λ (e : p ≡ 0). omega arith), le-ltb 93 p k)
      (choice (Names i) (not (clears_lower t winner loser p)) None _
      (λ _. tt)
      (λ _. choice (Names i) (clears_upper t winner loser p) (Some (called i (p - 1))) None (λ _. (refl, level)) (λ _. tt)))

  pub gap_names : leads winner loser ≡ true → Names i (gap_reply t i winner loser)
  unfolding gap_reply leads
  gap_names h =
      let gap = winner ⊖ loser in
      let cap = own_cap pre in
      let wide = (both (finite gap) (lt epsilon gap) h).1 in
      let p = partition_point t.thresholds gap in
      let two : le (entry t.thresholds 2) gap ≡ true = rw (own_two pre) (lt-le gap0 gap (lt_trans gap0 epsilon gap epsilon_up wide)) in
      let least = point_above t.thresholds gap (own_rise pre) 2 (omega arith) two in
      rw (le-ltb 93 t.cap cap.1)
      (choice (Names i) (le (entry t.thresholds t.cap) gap) (cap_reply t i winner loser) (bracket_reply t i winner loser p)
      (λ _. cap_names)
      (λ low. bracket_names p (omega arith) (most p t.cap cap.1 (λ (l : t.cap < p). clash low (point_below t.thresholds gap (own_rise pre) t.cap l)))))
