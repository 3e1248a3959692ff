use Rattle.std.proofs.Common.{◌∙◌, sym}
use Rattle.umi_verdicts.proofs.Likeness.{like_sound}
use Rattle.umi_verdicts.proofs.verdicts.looks_sound.Goals as goal

pub returns-then-not-high_in : goal.returns-then-not-high_in
returns-then-not-high_in c e =
    let f = c.args.family.now in
    let low = rw c.first.ensures at (sym c.high_in.ensures ∙ c.if-not-high_in.true) in
    like_sound f.width f.set.now f.places.now f.fit low (sym c.rows_like.ensures ∙ e)
