-- `of`: what the closure makes of each quality is its window. Assumes nothing.
use Rattle.std.proofs.Common.{rules, []}
use Rattle.observation_windows.proofs.Made.{made}
use Rattle.observation_windows.specs.Windows.{window_at, windows_of}
use Rattle.observation_windows.proofs.table.Windows.of.Goals as goal

pub returns : goal.returns
unfolding windows_of
returns c = made [] _ _ (window_at c.args.tables.now) 94 (λ i y d l k. (search rules, search rules)) _ c.from_fn.ensures.items
