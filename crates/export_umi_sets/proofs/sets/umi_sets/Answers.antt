-- `umi_sets`: by no function nothing is written. Assumes nothing.
use Rattle.export_reports.proofs.Written.{nothing_said}
use Rattle.export_umi_sets.specs.Answers.{umi_sets_bytes}
use Rattle.export_umi_sets.proofs.sets.umi_sets.Goals as goal

pub returns-in_err-question : goal.returns-in_err-question
unfolding umi_sets_bytes
returns-in_err-question c =
    let none = nothing_said (umi_sets_bytes c.args.pre.0 c.args.post.0 c.args.quality.0 c.args.which c.args.sets.now) c.args.out.now (rw (← c.in_err-question.ensures)) in
    record { reply = rw c.from_residual.ensures none.0; some = rw (c.from_residual.ensures, ← c.in_err-question.ensures); lent = none.1 }
