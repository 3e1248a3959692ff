use Rattle.umi_column.specs.Calls.{named_byte}
use Rattle.umi_column.specs.Sums.{byte_by}
use Rattle.umi_column.proofs.calls.consensus_byte.Goals as goal

pub returns : goal.returns
unfolding named_byte byte_by
returns c = c.named.ensures
