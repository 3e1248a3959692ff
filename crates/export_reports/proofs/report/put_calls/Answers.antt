-- `put_calls`: its four parts. Assumes nothing.
use Rattle.lent_text.proofs.Printed.{print_then}
use Rattle.export_reports.specs.Report.{calls_bytes}
use Rattle.export_reports.proofs.report.put_calls.Goals as goal

pub returns : goal.returns
unfolding calls_bytes
returns g c =
    let unanimous = rw c.try_unanimous_fast_path-unanimous.ensures at c.put_reply.ensures in
    let multibase = rw c.try_multibase_fast_path-multibase.ensures at c.put_reply-2.ensures in
    let full = rw c.call_full.ensures at c.put_call.ensures in
    let call = rw c.call.ensures at c.put_call-2.ensures in
    print_then (print_then (print_then unanimous multibase) full) call
