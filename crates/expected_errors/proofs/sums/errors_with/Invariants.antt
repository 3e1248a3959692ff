-- `errors_with`: the sum and what is left to add are all, at each turn. Assumes nothing.
use Rattle.std.proofs.Common.{◌≡◌, ◌+◌, ◌%◌, ◌^◌, ◌<◌}
use Rattle.std.specs.Slice.Iter.{chunks_exact_rest, chunks_exact_size}
use Rattle.column_file.specs.Places.{observations_in}
use Rattle.expected_errors.specs.Sums.{errors_with}
use Rattle.expected_errors.proofs.sums.errors_with.Given as goal

abbrev pub invariant-loop-observation : goal.invariant-loop-observation
invariant-loop-observation l =
    let left = observations_in (chunks_exact_rest l.observation-iterator) in
    record {
      two : chunks_exact_size l.observation-iterator ≡ 2;
      fits : l.sum < 2 ^ 64;
      sum : (l.sum + errors_with l.errors left) % 2 ^ 64 ≡ errors_with l.errors (observations_in l.observations) % 2 ^ 64;
    }
