-- `next`: fewer items are left. Assumes nothing.
use Rattle.export_scripts.proofs.Walk.{items_shrink}
use Rattle.export_scripts.proofs.script.ItemsIterator.next.Goals as goal

pub returns-clause-goes : goal.returns-clause-goes
returns-clause-goes c =
    let less = items_shrink c.args.self.now.0.now _ c.in_ok-item.ensures.cases.1 c.in_ok-item.ensures.cases.2 in
    record { on = λ _. (tt, tt, less); keeps = tt; rests = λ _. tt }
