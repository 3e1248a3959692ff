-- A sum over lanes before and after one of them. Assumes nothing.
use Rattle.std.proofs.Common.{◌≡◌, List, ◌++◌}
use Rattle.std.proofs.lemmas.List.Sums.{fold-append}
use lib.Ieee.{Float}
use Rattle.phred.specs.Phred.{ln_sum_exp, ln_sum_exp_fold}

-- a sum over two lists, one after the other
pub sums_append : (t : Float) (xs ys : List Float) → ln_sum_exp_fold t (xs ++ ys) ≡ ln_sum_exp_fold (ln_sum_exp_fold t xs) ys
unfolding ln_sum_exp_fold
sums_append t xs ys = fold-append ln_sum_exp t xs ys
