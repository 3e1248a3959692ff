-- `longest`: at most 21 bytes for each column. Assumes nothing.
use Rattle.column_errors.proofs.Texts.{at_most}
use Rattle.column_errors.proofs.sums.SumsText.longest.Goals as goal

pub returns : goal.returns
returns c =
    let columns = c.args.self.now.columns in
    at_most c.args.self.now.errors.now columns.file.now columns.left columns.at
