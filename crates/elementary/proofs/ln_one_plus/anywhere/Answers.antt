use mathlib.Core.Path.{◌≡◌, ap, ◌∙◌}
use mathlib.Core.Bool.{true}
use lib.Ieee.{eq}
use Rattle.float.specs.Ops.{plus_zero}
use Rattle.elementary.specs.declared.ln_one_plus.Parts.{Parts}
use Rattle.elementary.specs.LnOnePlus.{joined_of}
use Rattle.elementary.proofs.Numbers.{zero_equal}
use Rattle.elementary.proofs.ln_one_plus.anywhere.Goals as goal

-- where k is 0, c does not count
without-c : (t : Parts) → eq t.k plus_zero ≡ true → joined_of (record { f = t.f; k = plus_zero; c = plus_zero }) ≡ joined_of t
unfolding joined_of
without-c t h = rw (zero_equal, h)

pub returns-then-t : goal.returns-then-t
returns-then-t c = c.near.ensures ∙ without-c _ c.if-t.true ∙ ap joined_of c.reduced-t.ensures
