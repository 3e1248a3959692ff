-- `put_set`: the code, the string and the builder; no string where the set is refused. Assumes nothing.
use Rattle.std.proofs.Common.{ℕ, take, sym, ap, ◌∙◌}
use Rattle.std.specs.Int.{w64}
use Rattle.lent_bytes.specs.Bytes.{number_bytes}
use Rattle.lent_bytes.proofs.Numbers.{le_bytes}
use Rattle.lent_text.proofs.Printed.{print_then, printed_as}
use Rattle.export_umi_sets.proofs.Set.{set_given, set_refused}
use Rattle.export_umi_sets.proofs.sets.put_set.Goals as goal

pub returns-in-Ok-clause-put : goal.returns-in-Ok-clause-put
returns-in-Ok-clause-put c =
    let e = sym c.in-Ok.ensures.asked in
    let code = printed_as c.bytes.ensures (c.to_le_bytes.ensures ∙ le_bytes w64 c.code.result ∙ ap (number_bytes 8) c.code.ensures) in
    let state = printed_as c.bytes-in-Ok-2.ensures c.builder_bytes.ensures in
    let text = printed_as c.bytes-in-Ok.ensures (ap (λ (n : ℕ). take n c.ask.new.text) c.from.ensures) in
    printed_as (print_then code (print_then text state)) (set_given c.args.question c.args.caller c.args.set.now e c.in-Ok.ensures.short c.ask.ensures.lent)

pub returns-in-Err-clause-put : goal.returns-in-Err-clause-put
returns-in-Err-clause-put c =
    let number = c.from-in-Err-2.ensures ∙ c.from-in-Err.ensures in
    let code = printed_as c.bytes-in-Err.ensures (c.to_le_bytes-in-Err.ensures ∙ le_bytes w64 c.from-in-Err-2.result ∙ ap (number_bytes 8) number) in
    let state = printed_as c.bytes-in-Err-2.ensures c.builder_bytes-in-Err.ensures in
    printed_as (print_then code state) (set_refused c.args.question c.args.caller c.args.set.now (sym c.in-Err.ensures.asked))
