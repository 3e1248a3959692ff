-- A sum of exponentials is 0 nowhere but where all of them are: `ln_sum_exp_array` is -infinity only if it is empty or all lanes are. Assumes nothing.
use mathlib.Core.Path.{◌≡◌, refl, sym, ap, ◌∙◌}
use mathlib.Core.Bool.{true, false}
use mathlib.Core.List.{List, [], ◌∷◌, ◌++◌}
use Prim.Native.Nat.{ℕ, zero, suc, ◌+◌, ◌<◌}
use native.Mathlib.Nat.{le_of_suc-le-suc, not-suc-le-zero}
use native.Mathlib.Numerals.{add-one}
use lib.Dec.{T}
use lib.ListN.{length, get_or, take, drop}
use lib.Ieee.{Float, nan, binary64, fits, lt, le, eq, neg, div, of_bits, is_nan}
use lib.Ieee.Fits.{add-fits, sub-fits}
use Rattle.float.specs.Ops.{◌⊕◌, ◌⊖◌, plus_zero}
use native.Mathlib.Omega.{arith}
use Rattle.std.specs.Prelude.{All}
use Rattle.std.proofs.lemmas.List.Elements.{All-from_get_or, All-append, All-take, All-drop}
use Rattle.words.proofs.Cases.{test, clash, choice, both}
use Rattle.float.proofs.Order.{ne_self, lt_trans, lt-le, le_numbers, not_lt_le}
use Rattle.float.proofs.Sums.{add_not_below, add_not_minus_infinity}
use Rattle.elementary.specs.Exp.{exp_of}
use Rattle.elementary.proofs.Signs.{exp_from_0, exp_not_below, ln_one_plus_not_below}
use Rattle.phred.specs.Phred.{ln_zero, log1pexp_zero, minus37, plus18, plus33·3, log1pexp_of, ln_sum_exp_general, ln_sum_exp, all_ln_zero, start_lane, ln_sum_exp_fold, ln_sum_exp_from, ln_sum_exp_array}
use Rattle.phred.specs.Laws.{ZeroOnlyOfZeros}
use Rattle.phred.proofs.Start.{start_inside}

-- not below 0
abbrev Up : Float → Type 0
Up y = lt y plus_zero ≡ false

above_0 : (lt plus_zero plus18 ≡ true) × (lt plus_zero plus33·3 ≡ true) × (is_nan plus18 ≡ false)
unfolding lt is_nan of_bits
above_0 = (refl, refl, refl)

-- a sum with something from 0 on, of a number above 18
sum_up : (x z : Float) → T (fits binary64 x) → le x plus18 ≡ false → is_nan x ≡ false → Up z → Up (x ⊕ z)
sum_up x z f h n u =
    test (lt (x ⊕ z) plus_zero)
    (λ t. clash (add_not_below x z f u) (lt_trans (x ⊕ z) plus_zero x t (lt_trans plus_zero plus18 x above_0.0 over)))
    (λ t. t)
  where
    over : lt plus18 x ≡ true
    over = test (lt plus18 x) (λ t. t) (λ t. clash h (not_lt_le plus18 x above_0.2 n t))

-- ln(1 + exp x) is not below 0
log1pexp_up : (x : Float) → T (fits binary64 x) → Up (log1pexp_of x)
unfolding log1pexp_of
log1pexp_up x f =
    choice Up (le x minus37) (exp_of x) _ (λ t. exp_not_below x)
    (λ a. choice Up (le x plus18) _ _ (λ t. ln_one_plus_not_below (exp_of x) (exp_from_0 x (ne_self x ∙ (le_numbers x plus18 t).0)))
    (λ b. choice Up (le x plus33·3) _ x (λ t. sum_up x (exp_of (neg x)) f b (le_numbers x plus33·3 t).0 (exp_not_below (neg x)))
    (λ c. test (lt x plus_zero) (λ t. clash c (lt-le x plus33·3 (lt_trans x plus_zero plus33·3 t above_0.1))) (λ t. t))))

-- not -infinity
abbrev Some : Float → Type 0
Some y = eq y ln_zero ≡ false

add_some : (x z : Float) → T (fits binary64 x) → Some x → Up z → Some (x ⊕ z)
unfolding neg div of_bits
add_some x z f s u = add_not_minus_infinity x z f s u

ln_two_up : Up log1pexp_zero
unfolding lt of_bits
ln_two_up = refl

-- a sum with one exponential that is not 0 is not 0
sum_some : (a b : Float) → T (fits binary64 a) → T (fits binary64 b) → Some a → Some (ln_sum_exp a b)
unfolding ln_sum_exp ln_sum_exp_general
sum_some a b f g s =
    rw s
    (test (eq b ln_zero) (λ t. rw t s)
    (λ t. rw t
    (choice Some (eq a b) _ _ (λ _. add_some a log1pexp_zero f s ln_two_up)
    (λ _. choice Some (lt b a) _ _ (λ _. add_some b _ g t (log1pexp_up (a ⊖ b) (sub-fits binary64 a b))) (λ _. add_some a _ f s (log1pexp_up (b ⊖ a) (sub-fits binary64 b a)))))))

-- where the first is 0 the sum is the second
sum_none : (a b : Float) → eq a ln_zero ≡ true → ln_sum_exp a b ≡ b
unfolding ln_sum_exp
sum_none a b h = rw h

abbrev F64 : Float → Type 0
F64 x = T (fits binary64 x)

sum_fits : (a b : Float) → T (fits binary64 a) → T (fits binary64 b) → T (fits binary64 (ln_sum_exp a b))
unfolding ln_sum_exp ln_sum_exp_general
sum_fits a b f g =
    choice F64 (eq a ln_zero) _ _ (λ _. g)
    (λ _. choice F64 (eq b ln_zero) _ _ (λ _. f)
    (λ _. choice F64 (eq a b) _ _ (λ _. add-fits binary64 a log1pexp_zero)
    (λ _. choice F64 (lt b a) _ _ (λ _. add-fits binary64 b _) (λ _. add-fits binary64 a _))))

-- a sum that is 0 has nothing but zeros in it
sums_none : (t : Float) (xs : List Float) → T (fits binary64 t) → All F64 xs → eq (ln_sum_exp_fold t xs) ln_zero ≡ true → (eq t ln_zero ≡ true) × (all_ln_zero xs ≡ true)
unfolding ln_sum_exp_fold all_ln_zero
sums_none t [] f l h = (h, refl)
sums_none t (x ∷ xs) f l h =
    let first : F64 x = l 0 nan (omega arith) in
    let rest : All F64 xs = λ k d in'. l (suc k) d (omega arith) in
    let r = sums_none (ln_sum_exp t x) xs (sum_fits t x f first) rest h in
    test (eq t ln_zero)
    (λ z. (z, rw (sym (ap (λ y. eq y ln_zero) (sum_none t x z)) ∙ r.0) r.1))
    (λ s. clash (sum_some t x f first s) r.0)

-- a lane that is 0 among others that are
zeros_join : (k : ℕ) (xs : List Float) → k < length xs → all_ln_zero (take k xs ++ drop (k + 1) xs) ≡ true → eq (get_or xs k nan) ln_zero ≡ true → all_ln_zero xs ≡ true
unfolding all_ln_zero
zeros_join k [] h z e = absurd (not-suc-le-zero h)
zeros_join zero (x ∷ xs) h z e = rw e z
zeros_join (suc k) (x ∷ xs) h z e =
    let w = both (eq x ln_zero) _ (rw (add-one (suc k)) at z) in
    rw w.0 (zeros_join k xs (le_of_suc-le-suc h) (rw (add-one k) w.1) e)

-- -infinity nowhere else
array_none : (xs : List Float) → ((j : ℕ) → T (fits binary64 (get_or xs j nan))) → eq (ln_sum_exp_array xs) ln_zero ≡ true → all_ln_zero xs ≡ true
unfolding ln_sum_exp_array ln_sum_exp_from
array_none xs f h =
    test (all_ln_zero xs) (λ z. z)
    (λ s.
    let k = (start_lane xs).place in
    let l = All-from_get_or F64 xs nan (λ j _. f j) in
    let r = sums_none (get_or xs k nan) (take k xs ++ drop (k + 1) xs) (f k) (All-append F64 (take k xs) (drop (k + 1) xs) (All-take F64 k xs l) (All-drop F64 (k + 1) xs l)) (rw s at h) in
    zeros_join k xs (start_inside xs s) r.1 r.0)

zero_itself : eq ln_zero ln_zero ≡ true
unfolding eq neg div of_bits
zero_itself = refl

-- and there
array_zero : (xs : List Float) → all_ln_zero xs ≡ true → eq (ln_sum_exp_array xs) ln_zero ≡ true
unfolding ln_sum_exp_array
array_zero xs h = rw h zero_itself

pub zero_only_of_zeros : (xs : List Float) → ZeroOnlyOfZeros xs
zero_only_of_zeros xs = record { only = array_none xs; there = array_zero xs }
