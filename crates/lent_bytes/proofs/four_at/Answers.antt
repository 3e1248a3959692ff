-- `four_at`: the number of the four bytes. Assumes nothing.
use mathlib.Core.Path.{◌∙◌, ap}
use Rattle.std.specs.Int.{from_le_bytes, w32}
use Rattle.lent_bytes.proofs.Numbers.{number_four}
use Rattle.lent_bytes.proofs.four_at.Goals as goal

pub returns : goal.returns
returns c = c.from_le_bytes.ensures ∙ ap (from_le_bytes w32) c.bytes_at.ensures ∙ number_four c.args.bytes.now c.args.at
