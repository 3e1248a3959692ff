-- `put_counts`: the fields of the counts so far. Assumes nothing.
use lib.ListN.{take}
use Rattle.lent_bytes.specs.Bytes.{joined}
use Rattle.lent_text.specs.Printed.{Printed}
use Rattle.listing_lines.proofs.Lines.{field}
use Rattle.listing_lines.proofs.put_counts.Given as goal

abbrev pub invariant-loop-count : goal.invariant-loop-count
invariant-loop-count l = Printed l.initial.p l.p (joined field (take l.count-index l.count-items))
