-- Corners of base_builder.rs that are computed.
use Rattle.std.specs.Prelude.{ℕ, ◌≡◌, Bool, List, [], ◌∷◌, leb, get_or, Float}
use Rattle.std.specs.Bool.{beq}
use Rattle.std.specs.Float.{nan}
use Rattle.std.specs.Float.Ieee.{lt, eq}
use Rattle.float.specs.Ops.{◌⊖◌, ◌⊘◌, bits, whole}
use Rattle.float.specs.Methods.{abs_of}
use Rattle.elementary.specs.Ln.{ln_of}
use Rattle.phred.specs.Phred.{ln_zero}
use Rattle.rate_tables.specs.Adjusted.{adjusted_tables}
use Rattle.lane_sums.specs.declared.observation.Sum.{Sum}
use Rattle.lane_sums.specs.Observation.{moved_by}
use Rattle.base_builder.specs.Builder.{entry_of}

-- at post-UMI rate 0 the matching lane gets -infinity at this quality byte exactly where it is 27 or more
unfoldable pub sinks_at : ℕ → Bool
sinks_at q = beq (eq (get_or (adjusted_tables 0).correct (entry_of q) nan) ln_zero) (leb 27 q)

-- 2^-50 = 8.881784197001252e-16
abbrev pub p50 : Float
p50 = bits 0x3cd0_0000_0000_0000

-- x is within 2^-50 of ln(m / n)
unfoldable pub about_ln : Float → ℕ → ℕ → Bool
about_ln x m n = lt (abs_of (x ⊖ ln_of (whole m ⊘ whole n))) p50

-- at post-UMI rate 0 and quality 0 it gets about ln(1/3), and the others about ln(2/9)
abbrev pub at_quality0 : List Bool
at_quality0 =
    about_ln (get_or (adjusted_tables 0).correct (entry_of 0) nan) 1 3
    ∷ about_ln (get_or (adjusted_tables 0).error_per_alt (entry_of 0) nan) 2 9
    ∷ []

-- after a value of -infinity the next counted base makes a lane NaN, for every lane and compensation
abbrev pub NanAfter : Type 0
NanAfter = (v : Float) (s : Sum) → (moved_by v (moved_by ln_zero s)).lane ≡ nan
