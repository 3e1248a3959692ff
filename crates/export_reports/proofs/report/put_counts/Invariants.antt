-- `put_counts`: those passed are printed. Assumes nothing.
use Rattle.std.proofs.Common.{take}
use Rattle.lent_bytes.specs.Bytes.{joined, four_bytes}
use Rattle.lent_text.specs.Printed.{Printed}
use Rattle.export_reports.proofs.report.put_counts.Given as goal

abbrev pub invariant-loop-n : goal.invariant-loop-n
invariant-loop-n l = Printed l.initial.p l.p (joined four_bytes (take l.n-index l.counts))
