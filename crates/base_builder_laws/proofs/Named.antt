-- A finite lane above all others, with which none ties as the rule tests it, is the one that the rule names. Assumes nothing.
use mathlib.Core.Path.{◌≡◌, refl, sym, ap, ◌∙◌}
use mathlib.Core.Bool.{Bool, true, false, not, ◌||◌}
use mathlib.Core.Logic.{◌≢◌}
use mathlib.Core.List.{List}
use Prim.Native.Nat.{ℕ, ◌<◌}
use lib.Dec.{eqb}
use lib.Ieee.{Float, nan, inf, fin, lt, eq, neg, div, is_nan, of_bits}
use lib.Ieee.Scale.{finite}
use borrow.Author.Tests.{lt-ltb, ne_eqb, not-true}
use Rattle.std.specs.Prelude.{Option, Some, option_and_then}
use Rattle.words.proofs.Cases.{clash}
use Rattle.float.proofs.Order.{lt_asym}
use Rattle.phred.specs.Phred.{ln_zero}
use Rattle.tie_rules.specs.declared.lead.Lead.{Lead}
use Rattle.tie_rules.specs.declared.tie_rule.TieRule.{TieRule}
use Rattle.tie_rules.specs.declared.tie_rule.TieRule.TheVariants.{UlpRelative, FgbioCompat}
use Rattle.tie_rules.proofs.Lanes.{below_at}
use Rattle.tie_rules.specs.Lanes.{lane}
use Rattle.tie_rules.specs.Scan.{scan, new_lead, below_every}
use Rattle.tie_rules.specs.UniqueMax.{lane_number}
use Rattle.tie_rules.specs.Ties.{fgbio_tie, fgbio_tested, ties_with, untied, fgbio_step, ulp_step, unseen, fgbio_unique_max_index, unique_max_index, not_minus_infinity, unique_max_index_with}
use Rattle.base_builder_laws.proofs.Scan.{FgbioUnder, UlpUnder, fgbio_wins, ulp_wins, wins}

-- of another lane, the second half of 'i or ..'
pub other : (i j : ℕ) (p : Bool) → j ≢ i → (eqb i j || p) ≡ true → p ≡ true
other i j p d h = sym (rw (ne_eqb i j (λ (e : i ≡ j). d (sym e)))) ∙ h

-- a finite value is a number, above -infinity
fin_number : (x : Float) → finite x ≡ true → is_nan x ≡ false
unfolding is_nan
fin_number nan h = clash refl h
fin_number (inf s) h = refl
fin_number (fin s m e) h = refl

fin_above : (x : Float) → finite x ≡ true → (eq x ln_zero ≡ false) × (lt ln_zero x ≡ true)
unfolding eq lt neg div of_bits
fin_above nan h = clash refl h
fin_above (inf s) h = clash refl h
fin_above (fin s m e) h = (refl, refl)

module _ (xs : List Float) (i : ℕ) (inside : i < 4) (number : finite (lane xs i) ≡ true) (above : (j : ℕ) → j < 4 → j ≢ i → lt (lane xs j) (lane xs i) ≡ true) where
  abbrev w : Float
  w = lane xs i

  -- a later lane that does not tie as FgbioCompat tests it is not within 2^-52
  free : untied FgbioCompat xs i w ≡ true → (j : ℕ) → j < 4 → j ≢ i → i < j → fgbio_tie (lane xs j) w ≡ false
  unfolding untied ties_with fgbio_tested
  free u j k d l =
      let x = lane xs j in
      let t = not-true (ties_with FgbioCompat i w j x) (other i j (not (ties_with FgbioCompat i w j x)) d (below_at 4 (λ j. eqb i j || not (ties_with FgbioCompat i w j (lane xs j))) j u k)) in
      sym (rw (lt-ltb i j l, lt_asym x w (above j k d))) ∙ t

  fgbio_scan : untied FgbioCompat xs i w ≡ true → scan fgbio_step unseen xs 4 ≡ Some (new_lead w i)
  fgbio_scan u =
      wins fgbio_step (λ k. Some (new_lead w k)) xs i (FgbioUnder w) (λ x. fgbio_tie x w ≡ false) (fgbio_wins w (fin_number w number)) unseen tt 4 inside
      (λ (j : ℕ) (k : j < 4) (d : j ≢ i). (above j k d, (λ (l : i < j). free u j k d l)))

  ulp_scan : scan ulp_step below_every xs 4 ≡ new_lead w i
  ulp_scan =
      wins ulp_step (new_lead w) xs i (UlpUnder w) (λ _. Unit {0}) (ulp_wins w) below_every (fin_above w number).1 4 inside
      (λ (j : ℕ) (k : j < 4) (d : j ≢ i). (above j k d, (λ (l : i < j). tt)))

  pub named : (rule : TieRule) → untied rule xs i w ≡ true → unique_max_index_with xs rule ≡ i
  unfolding unique_max_index_with fgbio_unique_max_index not_minus_infinity unique_max_index
  named FgbioCompat u = ap (λ (r : Option Lead). not_minus_infinity xs (lane_number (option_and_then (λ (l : Lead). l.at) r))) (fgbio_scan u) ∙ rw (lt-ltb i 4 inside, (fin_above w number).0)
  named UlpRelative u = rw (ulp_scan, number, u)
