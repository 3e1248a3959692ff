-- The short way of `ln_sum_exp` for equal operands gives what the general way gives. Assumes nothing.
use mathlib.Core.Path.{◌≡◌, refl, sym, ap, ◌∙◌}
use mathlib.Core.Bool.{true, false}
use mathlib.Core.Logic.{⊎_elim}
use lib.Dec.{T}
use lib.Ieee.{Float, nan, inf, fin, eq, neg, div, of_bits}
use lib.Ieee.Scale.{finite}
use Rattle.float.specs.Ops.{◌⊕◌, ◌⊖◌, plus_zero}
use Rattle.float.proofs.Order.{eq_neither}
use Rattle.float.proofs.Sums.{equal_difference}
use Rattle.phred.specs.Phred.{log1pexp_zero, ln_zero, log1pexp_of, ln_sum_exp_general, ln_sum_exp}
use Rattle.phred.proofs.Corners.{log1pexp_zero_lem, log1pexp_minus_zero}

-- the difference of two equal finite operands is a zero, and log1pexp of either zero is the constant bit for bit
pub short_way : (a b : Float) → T (finite a) → eq a b ≡ true → ln_sum_exp_general a b ≡ a ⊕ log1pexp_zero
unfolding ln_sum_exp_general
short_way a b f h =
    rw (eq_neither a b h).1
    (⊎_elim (λ d. from plus_zero d log1pexp_zero_lem) (λ d. from (neg plus_zero) d log1pexp_minus_zero) (equal_difference a b f h))
  where
    from : (z : Float) → b ⊖ a ≡ z → log1pexp_of z ≡ log1pexp_zero → a ⊕ log1pexp_of (b ⊖ a) ≡ a ⊕ log1pexp_zero
    from z d e = ap (λ y. a ⊕ log1pexp_of y) d ∙ ap (λ y. a ⊕ y) e

finite_some : (a : Float) → T (finite a) → eq a ln_zero ≡ false
unfolding eq neg div of_bits
finite_some nan f = absurd f
finite_some (inf s) f = absurd f
finite_some (fin s m e) f = refl

-- so for equal finite operands ln_sum_exp is the same with the short way and without it
pub same_either_way : (a b : Float) → T (finite a) → T (finite b) → eq a b ≡ true → ln_sum_exp a b ≡ ln_sum_exp_general a b
unfolding ln_sum_exp
same_either_way a b f g h = rw (finite_some a f, finite_some b g, h) (sym (short_way a b f h))
