-- `put_counts`: the counts so far. Assumes nothing.
use lib.ListN.{take}
use Rattle.lent_bytes.specs.Bytes.{joined, four_bytes}
use Rattle.lent_text.specs.Printed.{Printed}
use Rattle.column_records.proofs.columns.put_counts.Given as goal

abbrev pub invariant-loop-count : goal.invariant-loop-count
invariant-loop-count l = Printed l.initial.p l.p (joined four_bytes (take l.count-index l.count-items))
