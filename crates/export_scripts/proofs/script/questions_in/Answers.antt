-- `questions_in`: the count fits. Assumes nothing.
use Rattle.std.proofs.Common.{inl, arith}
use Rattle.export_scripts.proofs.Walk.{items_few}
use Rattle.export_scripts.proofs.script.questions_in.Goals as goal

pub count-requires-clause-fits : goal.count-requires-clause-fits
count-requires-clause-fits c = inl (rw c.filter.ensures.source (omega (arith, items_few c.args.script.now)))
