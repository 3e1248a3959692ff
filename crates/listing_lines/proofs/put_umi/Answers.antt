-- `put_umi`: the word, the text, and the flag of the branch that is taken. Assumes nothing.
use Rattle.lent_text.proofs.Printed.{print_then}
use Rattle.listing_lines.specs.Lines.{umi_line}
use Rattle.listing_lines.proofs.put_umi.Goals as goal

pub returns-then-had_errors : goal.returns-then-had_errors
unfolding umi_line
returns-then-had_errors c = rw c.if-had_errors.true (print_then c.bytes.ensures (print_then c.bytes-2.ensures c.bytes-then-had_errors.ensures))

pub returns-else-had_errors : goal.returns-else-had_errors
unfolding umi_line
returns-else-had_errors c = rw c.if-had_errors.false (print_then c.bytes.ensures (print_then c.bytes-2.ensures c.bytes-else-had_errors.ensures))
