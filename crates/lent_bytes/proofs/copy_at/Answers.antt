-- `copy_at`: those passed are set, and then one more. Assumes nothing.
use mathlib.Core.Path.{◌∙◌, ap}
use mathlib.Core.List.{List}
use Prim.Native.Nat.{ℕ, ◌+◌}
use lib.ListN.{set, get_or}
use Rattle.lent_bytes.proofs.Buffer.{sets_take}
use Rattle.lent_bytes.proofs.copy_at.Goals as goal

pub loop-i-preserved : goal.loop-i-preserved
loop-i-preserved c =
    let bytes = c.args.bytes.now in
    let i = c.loop-i.i in
    let at = c.args.at in
    ap (λ (l : List ℕ). set l (at + i) (get_or bytes i 0)) c.loop-i.invariant ∙ sets_take c.args.out.now at i bytes c.loop-i-test.true
