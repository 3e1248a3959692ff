-- What stands in for absent qualities, and what a quality is added as.
use Rattle.std.specs.Prelude.{ℕ, Option, Some, None, eqb}
use Rattle.std.specs.Prelude.{if◌then◌else◌}
use Rattle.phred.specs.declared.PhredScore.{PhredScore}

-- the quality byte that SAM calls absent
abbrev pub absent_quality : ℕ
absent_quality = 255

-- what it is added as: the stand-in, and itself where there is none
abbrev pub absent_as : Option PhredScore → ℕ
absent_as None = absent_quality
absent_as (Some s) = s.0

-- what any quality is added as: every other is itself
unfoldable pub quality_as : Option PhredScore → ℕ → ℕ
quality_as x q =
    if eqb q absent_quality then absent_as x
    else q
