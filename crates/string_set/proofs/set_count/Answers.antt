-- `set_count`: the strings passed and those still to read are those of the set, at each turn. Assumes nothing.
use native.Mathlib.Omega.{arith}
use Rattle.string_set.specs.StringSet.{string}
use Rattle.string_set.proofs.Readers.{passed_more, passed_cut, passed_all}
use Rattle.string_set.proofs.Strings.{set_none, set_cut, set_read}
use Rattle.string_set.proofs.set_count.Goals as goal

pub returns-in_err-n-clause-count : goal.returns-in_err-n-clause-count
returns-in_err-n-clause-count c = rw (c.from_residual.ensures, set_none _ c.in_err-n.ensures.cases)

pub returns-in_err-rest-clause-count : goal.returns-in_err-rest-clause-count
returns-in_err-rest-clause-count c =
    let cut = passed_cut string _ _ c.loop.counter _ c.loop.invariant c.loop-test.true c.in_err-rest.ensures in
    rw (c.from_residual-in_err-rest.ensures, c.in_ok-n.ensures.cases.0, set_cut _ _ cut)

pub loop-preserved : goal.loop-preserved
loop-preserved c = (passed_more string _ _ c.loop.counter _ c.loop.invariant c.loop-test.true c.in_ok-rest.ensures).0

pub returns-clause-count : goal.returns-clause-count
returns-clause-count c =
    let all = passed_all string _ _ c.loop.counter _ c.loop.invariant c.loop-test.false in
    rw (c.then_some.ensures, c.is_empty.ensures, c.from.ensures, c.in_ok-n.ensures.cases.0) (set_read _ _ _ c.loop.rest.now all (omega (arith, c.loop.invariant.1)))
