-- `add` by `&mut`: one that is refused leaves the builder as it was. Assumes nothing.
use Rattle.std.proofs.Common.{rules}
use Rattle.export_ways.proofs.Refused.{refused_left}
use Rattle.export_ways.proofs.ways.LentBuilderWay.add.Goals as goal

pub returns-in_err-add-clause-builder : goal.returns-in_err-add-clause-builder
returns-in_err-add-clause-builder c =
    let t = c.args.tables.now in
    let left = refused_left t.correct t.error_per_alt c.args.base c.args.qual.0 c.args.builder c.in_err-add.ensures.answer in
    search (rules, left)
