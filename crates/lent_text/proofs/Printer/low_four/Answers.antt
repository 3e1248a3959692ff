-- `low_four`: what is above four bytes is not put. Assumes nothing.
use Rattle.lent_text.proofs.Printed.{printed_as}
use Rattle.lent_text.proofs.Fours.{low_four}
use Rattle.lent_text.proofs.Printer.low_four.Goals as goal

pub returns : goal.returns
returns c = printed_as c.four.ensures (low_four c.args.n)
