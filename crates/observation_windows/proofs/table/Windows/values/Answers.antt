-- `values`: what the closure makes of each lane. Assumes nothing.
use Rattle.std.proofs.Common.{rules}
use Rattle.lane_sums.proofs.Made.{made}
use Rattle.observation_windows.proofs.table.Windows.values.Goals as goal

pub returns : goal.returns
returns c = made _ _ _ (λ i y d l k. (search rules, search rules)) _ c.from_fn.ensures.items
