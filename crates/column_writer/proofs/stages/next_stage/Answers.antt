-- `next_stage`: by the kind of part, refused or accepted by the reader. Assumes nothing.
use lib.ListN.{length}
use Rattle.std.proofs.lemmas.Result.{err_from_is_err_and}
use Rattle.column_file.proofs.FileRead.{refused_by, read_by}
use Rattle.column_writer.specs.Stages.{after_settings, after_column, after_strings}
use Rattle.column_writer.proofs.stages.next_stage.Goals as goal

pub returns-in_err-settings-in-Settings : goal.returns-in_err-settings-in-Settings
unfolding after_settings
returns-in_err-settings-in-Settings c =
    let p = err_from_is_err_and c.from_residual.result c.from_residual.ensures.1 in
    rw (p.1, p.2, c.in-Settings.is, ← c.in_err-settings-in-Settings.ensures.reading)

pub returns-in_err-read_column-in-Column : goal.returns-in_err-read_column-in-Column
unfolding after_column
returns-in_err-read_column-in-Column c =
    let p = err_from_is_err_and c.from_residual-in_err-read_column-in-Column.result c.from_residual-in_err-read_column-in-Column.ensures.1 in
    rw (p.1, p.2, c.in-Column.is, refused_by length _ _ c.in_err-read_column-in-Column.ensures.reading)

pub returns-in_err-count_strings-in-Strings : goal.returns-in_err-count_strings-in-Strings
unfolding after_strings
returns-in_err-count_strings-in-Strings c =
    let p = err_from_is_err_and c.from_residual-in_err-count_strings-in-Strings.result c.from_residual-in_err-count_strings-in-Strings.ensures.1 in
    rw (p.1, p.2, c.in-Strings.is, refused_by length _ _ c.in_err-count_strings-in-Strings.ensures.count)

pub returns-in_ok-settings-in-Settings : goal.returns-in_ok-settings-in-Settings
unfolding after_settings
returns-in_ok-settings-in-Settings c = rw (c.in-Settings.is, ← c.in_ok-settings-in-Settings.ensures.reading)

pub returns-in_ok-read_column-in-Column : goal.returns-in_ok-read_column-in-Column
unfolding after_column
returns-in_ok-read_column-in-Column c =
    rw (c.in-Column.is, (read_by length _ _ c.in_ok-read_column-in-Column.ensures.reading).1, c.one_column_less.ensures)

pub returns-in_ok-count_strings-in-Strings : goal.returns-in_ok-count_strings-in-Strings
unfolding after_strings
returns-in_ok-count_strings-in-Strings c = rw (c.in-Strings.is, (read_by length _ _ c.in_ok-count_strings-in-Strings.ensures.count).1)
