-- `new`: the builder is a new one of its rate. Assumes nothing.
use Rattle.simple_consensus.specs.Consensus.{caller_at}
use Rattle.simple_consensus.proofs.caller.SimpleConsensusCaller.new.Goals as goal

pub returns : goal.returns
unfolding caller_at
returns c = rw c.new.ensures
