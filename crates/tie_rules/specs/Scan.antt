-- The scan from lane to lane.
use Rattle.std.specs.Prelude.{ℕ, zero, suc, Some, None, List, Float}
use Rattle.phred.specs.Phred.{ln_zero}
use Rattle.tie_rules.specs.declared.lead.Lead.{Lead}
use Rattle.tie_rules.specs.Lanes.{lane}

-- the first n lanes, where a step makes of what was known, a lane and its value what is known after it
unfoldable pub scan : {A : Type 0} → (A → ℕ → Float → A) → A → List Float → ℕ → A
scan step r xs zero = r
scan step r xs (suc n) = step (scan step r xs n) n (lane xs n)

-- lane k, of the value x, takes over
abbrev pub new_lead : Float → ℕ → Lead
new_lead x k = record { best = x; at = Some k }

-- the running maximum stays, and is cancelled
abbrev pub cancelled : Lead → Lead
cancelled l = record { best = l.best; at = None }

-- before the first lane: a maximum of -infinity
abbrev pub below_every : Lead
below_every = record { best = ln_zero; at = None }
