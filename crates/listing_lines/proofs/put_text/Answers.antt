-- `put_text`: the header, the lines and the last line. Assumes nothing.
use Rattle.lent_text.proofs.Printed.{print_then}
use Rattle.listing_lines.specs.Tables.{text_with}
use Rattle.listing_lines.proofs.put_text.Goals as goal

pub returns : goal.returns
unfolding text_with
returns c = print_then c.bytes.ensures (print_then c.put_lines.ensures c.put_umi.ensures)
