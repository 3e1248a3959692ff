-- The sum of four lanes, run with the lane to start from moved to the front, is the sum of the list. Assumes nothing.
use mathlib.Core.Path.{◌≡◌, refl, sym, ap, ◌∙◌}
use mathlib.Core.Bool.{true, false}
use mathlib.Core.List.{List, [], ◌∷◌}
use native.Mathlib.Omega.{arith}
use lib.ListN.{length, get_or}
use lib.Ieee.{Float, nan, inf, fin, lt, eq, neg, div, of_bits}
use Rattle.float.specs.Ops.{plus_infinity}
use Rattle.words.proofs.Cases.{test, clash, both}
use Rattle.phred.specs.Phred.{ln_zero, ln_sum_exp, all_ln_zero, lower_of, lowest_from, start_lane, ln_sum_exp_fold, ln_sum_exp_from, ln_sum_exp_array}
use Rattle.phred.specs.FourLanes.{least_of, first_two, first_three, ln_sum_exp_four, ln_sum_exp_lanes}

-- what equals -infinity is -infinity
is_zero : (x : Float) → eq x ln_zero ≡ true → x ≡ ln_zero
unfolding eq neg div of_bits
is_zero nan h = clash refl h
is_zero (inf true) h = refl
is_zero (inf false) h = clash refl h
is_zero (fin s m e) h = clash refl h

-- four lanes of -infinity need no test of their own
zeros : ln_sum_exp_lanes ln_zero ln_zero ln_zero ln_zero ≡ ln_zero
unfolding ln_sum_exp_lanes ln_sum_exp_four first_three first_two least_of ln_sum_exp lt eq neg div of_bits
zeros = refl

all_zeros : (a b c d : Float) → all_ln_zero (a ∷ b ∷ c ∷ d ∷ []) ≡ true → ln_sum_exp_lanes a b c d ≡ ln_zero
unfolding all_ln_zero
all_zeros a b c d h =
    let p = both (eq a ln_zero) _ h in
    let q = both (eq b ln_zero) _ p.1 in
    let r = both (eq c ln_zero) _ q.1 in
    let s = both (eq d ln_zero) _ r.1 in
    rw (is_zero a p.0, is_zero b q.0, is_zero c r.0, is_zero d s.0) zeros

-- lane 0 as the lowest so far
first : (a : Float) → lower_of (record { place = 0; value = plus_infinity }) 0 a ≡ record { place = 0; value = least_of a }
unfolding lower_of least_of
first a = test (lt a plus_infinity) (λ t. rw t) (λ t. rw t)

-- the three tests that follow, whatever comes of each
from_start : (a b c d : Float) → ln_sum_exp_from (a ∷ b ∷ c ∷ d ∷ []) (start_lane (a ∷ b ∷ c ∷ d ∷ [])).place ≡ ln_sum_exp_lanes a b c d
unfolding start_lane lowest_from lower_of ln_sum_exp_from ln_sum_exp_fold ln_sum_exp_lanes ln_sum_exp_four first_three first_two
from_start a b c d =
    rw (first a)
    (test (lt b (least_of a))
    (λ p. test (lt c b)
    (λ q. test (lt d c) (λ r. rw (p, q, r)) (λ r. rw (p, q, r)))
    (λ q. test (lt d b) (λ r. rw (p, q, r)) (λ r. rw (p, q, r))))
    (λ p. test (lt c (least_of a))
    (λ q. test (lt d c) (λ r. rw (p, q, r)) (λ r. rw (p, q, r)))
    (λ q. test (lt d (least_of a)) (λ r. rw (p, q, r)) (λ r. rw (p, q, r)))))

four_lanes : (a b c d : Float) → ln_sum_exp_lanes a b c d ≡ ln_sum_exp_array (a ∷ b ∷ c ∷ d ∷ [])
unfolding ln_sum_exp_array
four_lanes a b c d = test (all_ln_zero (a ∷ b ∷ c ∷ d ∷ [])) (λ z. rw z (all_zeros a b c d z)) (λ z. rw z (sym (from_start a b c d)))

-- a list of four is its lanes
four_of : (xs : List Float) → length xs ≡ 4 → xs ≡ get_or xs 0 nan ∷ get_or xs 1 nan ∷ get_or xs 2 nan ∷ get_or xs 3 nan ∷ []
four_of [] h = absurd (omega arith)
four_of (a ∷ []) h = absurd (omega arith)
four_of (a ∷ b ∷ []) h = absurd (omega arith)
four_of (a ∷ b ∷ c ∷ []) h = absurd (omega arith)
four_of (a ∷ b ∷ c ∷ d ∷ []) h = refl
four_of (a ∷ b ∷ c ∷ d ∷ e ∷ xs) h = absurd (omega arith)

pub array_of_four : (xs : List Float) → length xs ≡ 4 → ln_sum_exp_array xs ≡ ln_sum_exp_lanes (get_or xs 0 nan) (get_or xs 1 nan) (get_or xs 2 nan) (get_or xs 3 nan)
array_of_four xs n = ap ln_sum_exp_array (four_of xs n) ∙ sym (four_lanes _ _ _ _)
