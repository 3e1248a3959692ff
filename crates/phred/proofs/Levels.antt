-- Every logarithm gives a level from 2 to 93. Assumes nothing.
use Prim.Native.Nat.{ℕ}
use native.Mathlib.Omega.{arith}
use lib.Ieee.{lt, is_nan}
use Rattle.words.proofs.Cases.{choice}
use Rattle.phred.specs.Laws.{Level, Levels}
use Rattle.phred.specs.Phred.{clamped, max_phred_as_ln_error, ln_prob_to_phred}

clamped_level : (n : ℕ) → Level (clamped n)
clamped_level n = (omega arith, omega arith)

pub levels : Levels
unfolding ln_prob_to_phred
levels p = choice Level (lt p max_phred_as_ln_error) 93 _ (λ _. (omega arith, omega arith)) (λ _. choice Level (is_nan p) 2 _ (λ _. (omega arith, omega arith)) (λ _. clamped_level _))
