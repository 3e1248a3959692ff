-- How long the line of a refusal is, and how it is put aside. Assumes nothing.
use mathlib.Core.Path.{◌≡◌}
use Prim.Native.Nat.{◌≤◌, ◌<◌}
use native.Mathlib.Omega.{arith}
use lib.ListN.{length, take, length-append}
use Rattle.lent_text.specs.declared.Printer.{Printer}
use Rattle.lent_text.specs.Printed.{Printed}
use Rattle.lent_text.proofs.Printed.{printed_written, printed_front}
use Rattle.lent_text.proofs.Decimal.{decimal_length}
use Rattle.refusals.specs.declared.Refusal.{Refusal}
use Rattle.refusals.specs.Refusals.{number_of}
use Rattle.refusals.proofs.Numbers.{number_small}
use Rattle.refusal_text.specs.RefusalText.{refusal_line}

-- two digits are enough
pub refusal_length : (r : Refusal) → length (refusal_line r) ≤ 11
unfolding refusal_line
refusal_length r = simp length-append (omega (arith, decimal_length 2 (number_of r) (omega arith) (number_small r)))

-- it is not empty
pub refusal_some : (r : Refusal) → 0 < length (refusal_line r)
unfolding refusal_line
refusal_some r = omega arith

-- put aside, where there is room for it
pub line_aside : {p q : Printer} (r : Refusal) → Printed p q (refusal_line r) → p.at ≡ 0 → 11 ≤ length p.out.now
    → (q.at ≡ length (refusal_line r)) × (q.at ≤ 11) × (take q.at q.out.now ≡ refusal_line r)
line_aside r f z h =
    let l = refusal_length r in
    let n = (printed_written f z (omega arith)).0 in
    (n, omega arith, printed_front f z (omega arith))
