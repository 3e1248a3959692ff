-- `add_entry`: a base, counted. Assumes nothing.
use mathlib.Core.Path.{ap}
use Rattle.std.proofs.Common.{Ok, arith}
use Rattle.base_builder.proofs.Counts.{counts, answers}
use Rattle.base_builder.proofs.builder.ConsensusBaseBuilder.add_entry.Goals as goal

pub returns-clause-builder : goal.returns-clause-builder
returns-clause-builder c =
    counts _ c.in-Some.k _ c.in-Some.ensures.lane c.in-Some.ensures.inside (omega arith) _ _ _ (rw c.values.ensures at c.observed.ensures)

pub returns-clause-answer : goal.returns-clause-answer
returns-clause-answer c =
    let room = answers _ c.in-Some.k c.args.self c.in-Some.ensures.lane c.in-Some.ensures.inside (omega arith) in
    rw room (ap Ok (returns-clause-builder c))
