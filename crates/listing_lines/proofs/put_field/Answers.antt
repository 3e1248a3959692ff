-- `put_field`: the space and the number. Assumes nothing.
use Rattle.lent_text.proofs.Printed.{print_then}
use Rattle.listing_lines.proofs.put_field.Goals as goal

pub returns : goal.returns
returns c = print_then c.byte.ensures c.decimal.ensures
