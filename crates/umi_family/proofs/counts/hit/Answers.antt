-- `hit`: a test's number. Assumes nothing.
use mathlib.Core.Path.{◌≡◌, refl}
use mathlib.Core.Bool.{Bool, true, false, ◌||◌}
use Prim.Native.Nat.{◌≤◌}
use native.Mathlib.Omega.{arith}
use lib.Dec.{eqb}
use mir.Val.{bool_byte}
use Rattle.std.specs.Prelude.{if◌then◌else◌}
use Rattle.umi_family.proofs.counts.hit.Goals as goal

number : (b : Bool) → (bool_byte b ≡ (if b then 1 else 0)) × (bool_byte b ≤ 1)
number true = (refl, omega arith)
number false = (refl, omega arith)

pub returns : goal.returns
returns c = let said = number (eqb c.args.byte c.args.upper || eqb c.args.byte c.args.lower) in record { one = said.0; most = said.1 }
