-- What holds of every logarithm, and of every list of lanes.
use Rattle.std.specs.Prelude.{◌≡◌, true, List, ℕ, ◌≤◌, T, get_or, Float}
use Rattle.std.specs.Float.{nan, binary64}
use Rattle.std.specs.Float.Ieee.{fits, eq}
use Rattle.phred.specs.Phred.{ln_zero, ln_prob_to_phred, all_ln_zero, ln_sum_exp_array}

-- from 2 to 93
abbrev pub Level : ℕ → Type 0
Level q = (2 ≤ q) × (q ≤ 93)

-- every logarithm gives such a level
abbrev pub Levels : Type 0
Levels = (p : Float) → Level (ln_prob_to_phred p)

-- the log-sum-exp of lanes is -infinity exactly where all of them are, as they are where there is none (SCOPE 2.3)
pub record ZeroOnlyOfZeros (xs : List Float) : Type 0 where
  pub only : ((j : ℕ) → T (fits binary64 (get_or xs j nan))) → eq (ln_sum_exp_array xs) ln_zero ≡ true → all_ln_zero xs ≡ true
  pub there : all_ln_zero xs ≡ true → eq (ln_sum_exp_array xs) ln_zero ≡ true
