use Rattle.std.proofs.Common.{◌≡◌, sym, ◌∙◌, arith}
use Rattle.umi_column.specs.Sums.{no_sums, summed_all}
use Rattle.umi_rows.specs.Rows.{bytes_at}
use Rattle.umi_rows.proofs.ColumnLoops.{first_at}
use Rattle.umi_family.proofs.ColumnLoops.{summed_more, summed_none}
use Rattle.umi_family.proofs.by_sums.summed_byte.Goals as goal

pub loop-place-preserved : goal.loop-place-preserved
loop-place-preserved c =
    summed_more c.args.window.now _ c.args.family.now.places.now c.loop-place.place-index c.loop-place.sums (omega arith) _ c.add_base-sums.ensures ∙ c.loop-place.invariant

pub returns : goal.returns
returns c =
    let f = c.args.family.now in
    let all : c.loop-place.sums ≡ summed_all c.args.window.now (bytes_at c.args.at f.set.now f.places.now) no_sums =
    sym (summed_none c.args.window.now _ f.places.now c.loop-place.place-index c.loop-place.sums (omega arith)) ∙ c.loop-place.invariant in
    rw (← first_at f.width f.set.now f.places.now c.args.at c.first.result.now f.fit.some c.requires c.first.ensures, ← all) c.sums_byte.ensures
