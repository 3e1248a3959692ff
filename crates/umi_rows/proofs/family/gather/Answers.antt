-- `gather`: the places passed hold their bytes, up to 255, and the others 0. Assumes nothing.
use Rattle.std.proofs.Common.{◌≡◌, ◌+◌, length, take, length-set, refl, sym, ◌∙◌, arith}
use lib.Seq.{length-take-le, get_or-take}
use Rattle.words.specs.Lists.{byte_at}
use Rattle.umi_rows.specs.Rows.{bytes_at, gathered_at}
use Rattle.umi_rows.proofs.RowLoops.{given_length, given_at}
use Rattle.umi_rows.proofs.ColumnLoops.{gathered_none, gathered_more, gathered_all}
use Rattle.umi_rows.proofs.family.gather.Goals as goal

pub loop-k-init : goal.loop-k-init
loop-k-init c = (refl, gathered_none (bytes_at c.args.at c.args.set.now c.args.places.now) 255)

pub loop-k-preserved : goal.loop-k-preserved
loop-k-preserved c =
    let ps = c.args.places.now in
    let k = c.loop-k.k in
    let long : length (take c.min.result ps) ≡ c.min.result = length-take-le c.min.result ps (omega arith) in
    let byte = given_at (λ p. byte_at c.args.set.now (p + 1 + c.args.at)) ps k 0 (omega (arith, long)) in
    let told : c.byte_after.result ≡ byte_at c.args.set.now (byte_at ps k + 1 + c.args.at) = rw (get_or-take c.min.result ps k 0 (omega (arith, long))) at c.byte_after.ensures in
    (simp length-set c.loop-k.invariant.0, gathered_more _ c.loop-k.column k c.loop-k.invariant.1 _ (omega (arith, long, c.loop-k.invariant.0)) (told ∙ sym byte))

pub returns : goal.returns
unfolding gathered_at
returns c =
    let ps = c.args.places.now in
    let long : length (take c.min.result ps) ≡ c.min.result = length-take-le c.min.result ps (omega arith) in
    let size : length (bytes_at c.args.at c.args.set.now ps) ≡ length ps = given_length _ _ in
    gathered_all _ c.loop-k.column c.loop-k.k c.loop-k.invariant.1 255 c.loop-k.invariant.0 (λ i h few. omega (arith, long, size))
