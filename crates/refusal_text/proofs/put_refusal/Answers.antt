-- `put_refusal`: the line. Assumes nothing.
use mathlib.Core.Path.{refl}
use Rattle.lent_text.proofs.Printed.{print_then, printed_as}
use Rattle.refusal_text.specs.RefusalText.{refusal_line}
use Rattle.refusal_text.proofs.put_refusal.Goals as goal

pub returns : goal.returns
unfolding refusal_line
returns c =
    let d = rw (c.from-2.ensures, c.from.ensures) at c.decimal.ensures in
    printed_as (print_then c.bytes.ensures (print_then d c.byte.ensures)) refl
