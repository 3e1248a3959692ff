-- `put_report`: its three parts. Assumes nothing.
use Rattle.lent_text.proofs.Printed.{print_then}
use Rattle.export_reports.specs.Report.{report_of}
use Rattle.export_reports.proofs.report.put_report.Goals as goal

pub returns : goal.returns
unfolding report_of
returns g c = print_then (print_then c.put_builder.ensures c.put_calls.ensures) c.byte.ensures
