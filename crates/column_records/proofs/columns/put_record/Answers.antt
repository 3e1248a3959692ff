-- `put_record`: its bytes and numbers, one after another. Assumes nothing.
use mathlib.Core.Path.{◌∙◌, ap}
use Prim.Native.Nat.{ℕ, ◌-◌}
use native.Mathlib.Omega.{arith}
use Rattle.lent_bytes.specs.Bytes.{four_bytes}
use Rattle.lent_text.proofs.Printed.{print_then, printed_as}
use Rattle.column_records.proofs.RecordLaws.{record_puts}
use Rattle.column_records.proofs.columns.put_record.Goals as goal

pub returns : goal.returns
returns c =
    let n = c.args.n in
    printed_as
    (print_then c.bytes.ensures
    (print_then (printed_as c.low_four.ensures (ap four_bytes c.total-depth.ensures))
    (print_then c.put_counts.ensures
    (printed_as c.low_four-2.ensures (ap four_bytes (c.saturating_sub.ensures ∙ ap (λ (d : ℕ). n - d) c.total-depth.ensures))))))
    (record_puts c.args.called n (omega arith))
