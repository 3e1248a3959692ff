-- The least gaps at which a quality formula reaches each level, found by halving, and what is promised of them. The formula is any.
use Rattle.std.specs.Prelude.{◌≡◌, Bool, not, ◌↔◌, ℕ, zero, suc, ◌≤◌, T, leb, Float}
use Rattle.std.specs.Float.Ieee.{le, eq}
use Rattle.std.specs.Float.Ieee.Scale.{finite}
use Rattle.gap_tables.specs.declared.thresholds.Ends.{Ends}
use Rattle.float.specs.Ops.{◌⊕◌, ◌⊗◌, bits, plus_zero, half, plus_infinity}
use Rattle.std.specs.Prelude.{if◌then◌else◌}

-- the narrowest gap, 0, and the widest, 256
abbrev pub gap0 : Float
gap0 = plus_zero

abbrev pub gap256 : Float
gap256 = bits 0x4070_0000_0000_0000

-- a gap reaches a level where its quality is the level or more
abbrev pub reaches : (Float → ℕ) → ℕ → Float → Bool
reaches quality level gap = leb level (quality gap)

-- 0.5 · (low + high)
unfoldable pub middle : Ends → Float
middle e = half ⊗ (e.low ⊕ e.high)

-- one halving: the middle becomes the upper end if it reaches the level, and else the lower end
unfoldable pub halved : (Float → Bool) → Ends → Ends
halved ok e =
    if ok (middle e) then record { low = e.low; high = middle e }
    else record { low = middle e; high = e.high }

-- n halvings of 0 to 256
unfoldable pub halvings : (Float → Bool) → ℕ → Ends
halvings ok zero = record { low = gap0; high = gap256 }
halvings ok (suc n) = halved ok (halvings ok n)

-- the threshold of a level, where gap 0 has the quality least and gap 256 the quality most: 0 if gap 0 reaches the level, infinite if neither gap does,
-- and else the upper end after 64 halvings
unfoldable pub threshold_with : (Float → ℕ) → ℕ → ℕ → ℕ → Float
threshold_with quality least most level =
    if leb level least then gap0
    else if leb level most then (halvings (reaches quality level) 64).high
    else plus_infinity

-- the threshold of a level
abbrev pub threshold : (Float → ℕ) → ℕ → Float
threshold quality level = threshold_with quality (quality gap0) (quality gap256) level

-- what demand 3 promises of the thresholds of a formula
pub record Thresholds (quality : Float → ℕ) : Type 0 where
  -- they never fall as the level rises
  pub rise : (q r : ℕ) → q ≤ r → T (le (threshold quality q) (threshold quality r))
  -- every finite one is a gap at which the formula reaches its level
  pub reached : (q : ℕ) → T (finite (threshold quality q)) → T (reaches quality q (threshold quality q))
  -- one is 0 exactly when gap 0 reaches its level
  pub is-0 : (q : ℕ) → T (eq (threshold quality q) gap0) ↔ T (reaches quality q gap0)
  -- and infinite exactly when neither gap 0 nor gap 256 does
  pub is_infinite : (q : ℕ) → (threshold quality q ≡ plus_infinity) ↔ (T (not (reaches quality q gap0)) × T (not (reaches quality q gap256)))
  -- and there is no other that is not finite
  pub else_finite : (q : ℕ) → T (not (finite (threshold quality q))) → threshold quality q ≡ plus_infinity
