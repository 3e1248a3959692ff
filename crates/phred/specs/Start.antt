-- SCOPE 2.3: the lane that a sum starts from.
use Rattle.std.specs.Prelude.{◌≡◌, true, false, List, ℕ, ◌<◌, get_or, Float}
use Rattle.std.specs.Float.{nan}
use Rattle.std.specs.Float.Ieee.{lt, eq}
use Rattle.float.specs.Ops.{plus_infinity}
use Rattle.phred.specs.Phred.{start_lane}

-- lane s is the lowest, the first if equal, and lane 0 if none is below +infinity
pub record Starts (xs : List Float) (s : ℕ) : Type 0 where
  -- where any lane is below +infinity this one is, so that it is neither NaN nor past the end
  pub below : (j : ℕ) → lt (get_or xs j nan) plus_infinity ≡ true → lt (get_or xs s nan) plus_infinity ≡ true
  pub lowest : (j : ℕ) → lt (get_or xs j nan) (get_or xs s nan) ≡ false
  pub first : (j : ℕ) → j < s → eq (get_or xs j nan) (get_or xs s nan) ≡ false
  pub lane_0 : ((j : ℕ) → lt (get_or xs j nan) plus_infinity ≡ false) → s ≡ 0

-- these words name one lane and no other, and it is that of `start_lane`
pub record OneStart (xs : List Float) : Type 0 where
  pub starts : Starts xs (start_lane xs).place
  pub only : (s t : ℕ) → Starts xs s → Starts xs t → s ≡ t
