-- As it is run; `lead_is` (tie_rules/proofs/Named) joins it to `not_minus_infinity` of `fgbio_unique_max_index`: a scan that begins at -infinity.
use Rattle.std.specs.Prelude.{ℕ, Float}
use Rattle.std.specs.Float.Ieee.{lt, le}
use Rattle.float.specs.Ops.{◌⊖◌, epsilon}
use Rattle.std.specs.Prelude.{if◌then◌else◌}
use Rattle.tie_rules.specs.declared.lead.Lead.{Lead}
use Rattle.tie_rules.specs.Scan.{new_lead, cancelled}

-- one lane: where it is above the best it takes over, and where the best is at most 2^-52 above it no lane leads
unfoldable pub lead_step : Lead → ℕ → Float → Lead
lead_step l k x =
    if lt l.best x then new_lead x k
    else if le (l.best ⊖ x) epsilon then cancelled l
    else l
