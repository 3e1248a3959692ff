-- `builder_bytes`: they fill the buffer. Assumes nothing.
use Rattle.std.proofs.Common.{refl, rules}
use Rattle.export_reports.proofs.Lengths.{builder_length}
use Rattle.export_reports.proofs.Parts.{printed_whole}
use Rattle.export_reports.proofs.report.builder_bytes.Goals as goal

pub returns : goal.returns
returns c =
    let whole = printed_whole c.put_builder.ensures refl (builder_length c.args.builder.now) in
    search (rules, whole, c.put_builder.ensures.buffer)
