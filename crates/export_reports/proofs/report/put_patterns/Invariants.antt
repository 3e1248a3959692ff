-- `put_patterns`: those passed are printed. Assumes nothing.
use Rattle.std.proofs.Common.{take}
use Rattle.lent_bytes.specs.Bytes.{joined}
use Rattle.lent_text.specs.Printed.{Printed}
use Rattle.export_reports.specs.Report.{pattern_of}
use Rattle.export_reports.proofs.report.put_patterns.Given as goal

abbrev pub invariant-loop-x : goal.invariant-loop-x
invariant-loop-x l = Printed l.initial.p l.p (joined pattern_of (take l.x-index l.numbers))
