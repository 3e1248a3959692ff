-- `add_observations`: the pairs that are left bring the builder to where all bytes bring the first one, and the room that is left is counted. Assumes nothing.
use mathlib.Core.Path.{◌≡◌}
use Prim.Native.Nat.{◌-◌}
use Rattle.std.specs.Slice.Iter.{chunks_exact_rest, chunks_exact_size}
use Rattle.base_builder.specs.Builder.{total, full_count}
use Rattle.observation_windows.specs.Windows.{all_added}
use Rattle.observation_windows.proofs.adding.add_observations.Given as goal

abbrev pub invariant-loop-pair : goal.invariant-loop-pair
invariant-loop-pair l =
    (chunks_exact_size l.pair-iterator ≡ 2)
    × (l.left ≡ full_count - total l.after.observations)
    × (all_added l.windows.rows l.after (chunks_exact_rest l.pair-iterator) ≡ all_added l.windows.rows l.initial.after l.observations)
