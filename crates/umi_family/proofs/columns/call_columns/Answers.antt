use Rattle.std.proofs.Common.{◌≡◌, ◌-◌, ◌<◌, length, arith}
use Rattle.std.proofs.lemmas.Bool.Decides.{nat_tests}
use Rattle.observation_windows.specs.Windows.{window_of}
use Rattle.umi_rows.specs.Rows.{bytes_at}
use Rattle.umi_rows.proofs.ColumnLoops.{gathered, gathered_first}
use Rattle.umi_family.specs.Family.{builder_by}
use Rattle.umi_family.proofs.ColumnLoops.{summed_length, front_told, no_columns, last_column}
use Rattle.umi_family.proofs.columns.call_columns.Goals as goal

pub returns-then-is_empty : goal.returns-then-is_empty
returns-then-is_empty c =
    let f = c.args.family.now in
    let none : length c.args.text.now ≡ 0 = grind (arith, nat_tests) in
    let said = no_columns c.args.entry c.args.builder f.set.now f.places.now c.args.text.now none in
    rw (← c.requires) (record { text = said.0; builder = said.1 })

pub returns : goal.returns
returns c =
    let f = c.args.family.now in
    let w = length c.args.text.now in
    let some : 0 < length c.args.text.now = grind (arith, nat_tests) in
    let others = front_told (w - 1) c.args.text.now c.call_others.new.text _ (omega arith) (omega (arith, summed_length w f.set.now f.places.now (window_of c.args.entry.correct c.args.entry.error_per_alt) c.args.builder.tie_rule)) (rw (← c.requires) at c.call_others.ensures) in
    let told = gathered f.set.now f.places.now (w - 1) c.column-column.result f.fit.few c.column-column.ensures in
    let added : c.add_column-after.result ≡ builder_by c.args.entry c.args.builder (bytes_at (w - 1) f.set.now f.places.now) = rw (told, c.reset.ensures) at c.add_column-after.ensures in
    let first = gathered_first f.set.now f.places.now (w - 1) c.column-column.result told f.fit.some in
    let said = last_column c.args.entry c.args.builder f.set.now f.places.now w some f.fit.few _ others.0 others.1 c.add_column-after.result added c.consensus_byte.result (rw first at c.consensus_byte.ensures) in
    rw (← c.requires) (record { text = said.0; builder = said.1 })
