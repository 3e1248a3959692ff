use Rattle.std.proofs.Common.{◌≡◌, ◌<◌, length, arith}
use Rattle.std.proofs.lemmas.Option.{IfSome_then}
use Rattle.tie_rules.specs.declared.tie_rule.TieRule.TheVariants.{FgbioCompat}
use Rattle.umi_rows.specs.Rows.{bytes_at}
use Rattle.umi_rows.proofs.RowLoops.{given_length}
use Rattle.umi_family.proofs.ColumnLoops.{column-more}
use Rattle.umi_family.proofs.ByCounts.{leads}
use Rattle.umi_family.proofs.leads.call_leads.Goals as goal

pub led_byte-requires-clause-named : goal.led_byte-requires-clause-named
led_byte-requires-clause-named c =
    let f = c.args.family.now in
    let at = c.loop-at.at in
    let l : at < f.width = omega (arith, c.requires.inside) in
    let column = bytes_at at f.set.now f.places.now in
    let size : length column ≡ length f.places.now = given_length _ f.places.now in
    let count = c.requires.counted in
    IfSome_then c.leader-lead.result c.leader-lead.ensures
    (λ i t. c.requires.faithful column (rw size f.fit.few) i t.0 (leads column _ _ _ _ (count 0 (omega arith) at l) (count 1 (omega arith) at l) (count 2 (omega arith) at l) (count 3 (omega arith) at l) i t.0 t.1))

pub loop-at-preserved : goal.loop-at-preserved
loop-at-preserved c =
    let f = c.args.family.now in
    column-more f.width f.set.now f.places.now c.args.window.now FgbioCompat c.loop-at.text c.loop-at.at _ (omega arith) (omega (arith, c.requires.inside)) c.led_byte.ensures c.loop-at.invariant
