-- `pass`: the step's answer decides. Assumes nothing.
use Rattle.export_scripts.specs.Script.{passed}
use Rattle.export_ways.proofs.Refused.{refusals-judged}
use Rattle.export_ways.proofs.items.pass.Goals as goal

pub returns : goal.returns
unfolding passed
returns g c = rw (c.after.ensures, c.step.ensures.builder, c.step.ensures.answer, refusals-judged)
