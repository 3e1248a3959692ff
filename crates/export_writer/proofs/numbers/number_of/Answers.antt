-- `number_of`: 13 for a writer of more bytes or columns than a file has, and else its number. Assumes nothing.
use Rattle.std.proofs.Common.{◌∙◌}
use Rattle.export_writer.proofs.Coded.{too_many_bytes, too_many_columns, numbered}
use Rattle.export_writer.proofs.numbers.number_of.Goals as goal
use Rattle.export_writer.proofs.numbers.number_of.Goals.{then-written-gt-LONGEST_FILE-via-then-written-gt-LONGEST_FILE, then-written-gt-LONGEST_FILE-via-else-written-gt-LONGEST_FILE+then-columns_to_come-ge-MOST_COLUMNS}

pub returns-then-written-gt-LONGEST_FILE : goal.returns-then-written-gt-LONGEST_FILE
returns-then-written-gt-LONGEST_FILE c =
    c.from-then-written-gt-LONGEST_FILE.ensures
    ∙ c.from.ensures
    ∙ elim c.then-written-gt-LONGEST_FILE.branch [
      | then-written-gt-LONGEST_FILE-via-then-written-gt-LONGEST_FILE w ↦ too_many_bytes c.args.writer w.if-written-gt-LONGEST_FILE.true
      | then-written-gt-LONGEST_FILE-via-else-written-gt-LONGEST_FILE+then-columns_to_come-ge-MOST_COLUMNS w ↦ too_many_columns c.args.writer (rw w.columns_to_come.ensures at w.if-columns_to_come-ge-MOST_COLUMNS.true)
    ]

pub returns : goal.returns
returns c =
    let few = rw c.columns_to_come.ensures at c.if-columns_to_come-ge-MOST_COLUMNS.false in
    rw c.stage_code.ensures.code (numbered c.args.writer c.if-written-gt-LONGEST_FILE.false few)
