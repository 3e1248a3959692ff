-- `call_column`: the builder after the column's bytes is that after its observations. Assumes nothing.
use mathlib.Core.Path.{◌≡◌, ◌∙◌}
use Rattle.base_builder.specs.declared.builder.ConsensusBaseBuilder.{ConsensusBaseBuilder}
use Rattle.column_file.specs.Places.{observations_in}
use Rattle.column_calls.specs.Tables.{builder_with, column_call_with}
use Rattle.column_calls.proofs.Tables.{bytes_added, as_it_was}
use Rattle.column_calls.proofs.columns.call_column.Goals as goal

pub returns : goal.returns
unfolding column_call_with
returns c =
    let after = c.add_observations-after in
    let builder : c.with_tie_rule-builder.result ≡ builder_with c.args.windows.now.rows c.args.start (observations_in c.args.column.now) =
    c.with_tie_rule-builder.ensures ∙ as_it_was after.result ∙ after.ensures ∙ bytes_added c.args.windows.now.rows c.args.start c.args.column.now in
    rw (c.call_with.ensures, builder)
