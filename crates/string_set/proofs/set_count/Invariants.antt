-- `set_count`: the strings passed and those still to read are those of the set, at each turn. Assumes nothing.
use Rattle.string_set.specs.StringSet.{string}
use Rattle.string_set.proofs.Readers.{Passed}
use Rattle.string_set.proofs.set_count.Given as goal

abbrev pub invariant-loop : goal.invariant-loop
invariant-loop l = Passed string l.initial.rest l.n l.counter l.rest
