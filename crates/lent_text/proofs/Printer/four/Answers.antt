-- `four`: std's bytes of a number are ours. Assumes nothing.
use mathlib.Core.Path.{◌∙◌}
use Rattle.std.specs.Int.{w32}
use Rattle.lent_bytes.proofs.Numbers.{le_bytes}
use Rattle.lent_text.proofs.Printed.{printed_as}
use Rattle.lent_text.proofs.Printer.four.Goals as goal

pub returns : goal.returns
returns c = printed_as c.bytes.ensures (c.to_le_bytes.ensures ∙ le_bytes w32 c.args.n)
