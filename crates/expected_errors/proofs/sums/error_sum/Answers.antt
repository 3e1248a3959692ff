-- `error_sum`: by the table of error probabilities. Assumes nothing.
use Rattle.std.proofs.Common.{◌≡◌, ◌%◌, ◌^◌, ◌∙◌}
use Rattle.column_file.specs.Places.{observations_in}
use Rattle.expected_errors.specs.Sums.{error_sum}
use Rattle.expected_errors.proofs.SumLaws.{nothing_lost}
use Rattle.expected_errors.proofs.sums.error_sum.Goals as goal

pub returns : goal.returns
unfolding error_sum
returns c =
    let sum : c.errors_with.result ≡ error_sum (observations_in c.args.observations.now) % 2 ^ 64 = rw (c.errors_with.ensures, c.error_table.ensures) in record { sum = sum; exact = λ few. sum ∙ nothing_lost _ few }
