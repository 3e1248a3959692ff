-- `put_builder`: its three parts. Assumes nothing.
use Rattle.std.proofs.Common.{arith}
use Rattle.std.specs.Float.{nan}
use Rattle.lent_bytes.specs.Bytes.{four_bytes}
use Rattle.lent_text.proofs.Printed.{print_then, printed_as}
use Rattle.export_reports.specs.Report.{pattern_of, builder_bytes}
use Rattle.export_reports.proofs.Parts.{four_parts}
use Rattle.export_reports.proofs.report.put_builder.Goals as goal

pub returns : goal.returns
unfolding builder_bytes
returns c =
    let b = c.args.builder.now in
    print_then (print_then (printed_as c.put_patterns.ensures (four_parts pattern_of b.likelihoods nan (omega arith))) (printed_as c.put_patterns-2.ensures (four_parts pattern_of b.compensations nan (omega arith)))) (printed_as c.put_counts.ensures (four_parts four_bytes b.observations 0 (omega arith)))
