-- Phred levels and natural logarithms of probabilities: what each function of phred.rs gives, in its order. A level is a whole number, a logarithm
-- an f64.
use Rattle.std.specs.Prelude.{ℕ, ◌+◌, min, max, Bool, List, ◌++◌, fold, get_or, take, drop, Float}
use Rattle.std.specs.List.{list_all, enumerate_from}
use Rattle.std.specs.Float.{nan}
use Rattle.std.specs.Float.Ieee.{lt, le, eq, neg, is_nan}
use Rattle.float.specs.Ops.{◌⊕◌, ◌⊖◌, ◌⊗◌, ◌⊘◌, bits, whole, plus_zero, one, six, epsilon, plus_infinity}
use Rattle.std.specs.Prelude.{if◌then◌else◌}
use Rattle.float.specs.Methods.{abs_of, floor_of}
use Rattle.elementary.specs.Exp.{exp_of}
use Rattle.elementary.specs.ExpMinusOne.{exp_minus_one_of}
use Rattle.elementary.specs.Ln.{ln_of}
use Rattle.elementary.specs.LnOnePlus.{ln_one_plus_of}
use Rattle.phred.specs.declared.Lowest.{Lowest}

-- ln 10 = 2.302585092994046, rounded
abbrev pub ln10 : Float
ln10 = bits 0x4002_6bb1_bbb5_5516

-- 10
abbrev pub ten : Float
ten = bits 0x4024_0000_0000_0000

-- ln 2 = 0.6931471805599453, rounded
abbrev pub ln_two : Float
ln_two = bits 0x3fe6_2e42_fefa_39ef

-- what ln_sum_exp adds where both operands are equal
abbrev pub log1pexp_zero : Float
log1pexp_zero = ln_two

-- ln(4/3) = 0.2876820724517809, rounded
abbrev pub ln_four_thirds : Float
ln_four_thirds = bits 0x3fd2_6962_1134_db92

-- the logarithm of 0: -infinity
abbrev pub ln_zero : Float
ln_zero = neg one ⊘ plus_zero

-- the least and the highest level of a call
abbrev pub min_phred : ℕ
min_phred = 2

abbrev pub max_phred : ℕ
max_phred = 93

-- the logarithm of the error at a level: -q · ln 10 / 10
unfoldable pub phred_to_ln_error_prob : ℕ → Float
phred_to_ln_error_prob q = neg (whole q) ⊗ ln10 ⊘ ten

-- ln(1 - exp x), by equation (7): near 0 from exp(x) - 1, further below from ln(1 + v)
unfoldable pub ln_one_minus_exp : Float → Float
ln_one_minus_exp x =
    if le plus_zero x then ln_zero
    else if le (neg ln_two) x then ln_of (neg (exp_minus_one_of x))
    else ln_one_plus_of (neg (exp_of x))

-- the logarithm of being right at a level
unfoldable pub phred_to_ln_correct_prob : ℕ → Float
phred_to_ln_correct_prob q = ln_one_minus_exp (phred_to_ln_error_prob q)

-- a whole number, held to the levels of a call
abbrev pub clamped : ℕ → ℕ
clamped n = max min_phred (min max_phred n)

-- the logarithm of the error at level 93: -93 · ln 10 / 10 = -21.41404136484463, rounded
abbrev pub max_phred_as_ln_error : Float
max_phred_as_ln_error = bits 0xc035_69fe_9d69_32ea

-- 0.001, rounded: what is added before the floor
abbrev pub thousandth : Float
thousandth = bits 0x3f50_624d_d2f1_a9fc

-- The level of an error's logarithm, fgbio's rule: 93 where it is below that of level 93, 2 at NaN, and else the floor of -10 · p / ln 10 + 0.001,
-- held to 2 .. 93.
unfoldable pub ln_prob_to_phred : Float → ℕ
ln_prob_to_phred p =
    if lt p max_phred_as_ln_error then max_phred
    else if is_nan p then min_phred
    else clamped (floor_of (neg ten ⊗ p ⊘ ln10 ⊕ thousandth))

-- where equation (10) passes from one form to the next: -37, 18, and 33.3, rounded
abbrev pub minus37 : Float
minus37 = neg (bits 0x4042_8000_0000_0000)

abbrev pub plus18 : Float
plus18 = bits 0x4032_0000_0000_0000

abbrev pub plus33·3 : Float
plus33·3 = bits 0x4040_a666_6666_6666

-- ln(1 + exp x), by equation (10): up to -37 exp x, up to 18 by ln(1 + v), up to 33.3 x + exp(-x), and above x
unfoldable pub log1pexp_of : Float → Float
log1pexp_of x =
    if le x minus37 then exp_of x
    else if le x plus18 then ln_one_plus_of (exp_of x)
    else if le x plus33·3 then x ⊕ exp_of (neg x)
    else x

-- ln(exp a - exp b): a where exp b is 0, -infinity where the two are within 2^-52, and NaN where b is the larger
unfoldable pub ln_a_minus_b : Float → Float → Float
ln_a_minus_b a b =
    if eq b ln_zero then a
    else if lt (abs_of (a ⊖ b)) epsilon then ln_zero
    else if lt a b then plus_zero ⊘ plus_zero
    else a ⊕ ln_one_minus_exp (b ⊖ a)

-- ln(exp a + exp b) where neither exponential is 0: from the smaller of the two, a where they are equal
unfoldable pub ln_sum_exp_general : Float → Float → Float
ln_sum_exp_general a b =
    if lt b a then b ⊕ log1pexp_of (a ⊖ b)
    else a ⊕ log1pexp_of (b ⊖ a)

-- ln(exp a + exp b): an exponential that is 0 adds nothing, and where the two are equal ln 2 is added
unfoldable pub ln_sum_exp : Float → Float → Float
ln_sum_exp a b =
    if eq a ln_zero then b
    else if eq b ln_zero then a
    else if eq a b then a ⊕ log1pexp_zero
    else ln_sum_exp_general a b

-- The logarithm of x + y - 4/3 · x · y, an error in either of two trials, of the logarithms of x and y, the larger first: that one where it is 6 or more
-- above the other, since it then stands for both, and else ln(exp(ln(x + y)) - exp(ln(4/3 · x · y))).
unfoldable pub two_trials : Float → Float → Float
two_trials larger smaller =
    if le six (larger ⊖ smaller) then larger
    else ln_a_minus_b (ln_sum_exp larger smaller) (ln_four_thirds ⊕ larger ⊕ smaller)

-- the same in either order
unfoldable pub ln_error_prob_two_trials : Float → Float → Float
ln_error_prob_two_trials p q =
    if lt p q then two_trials q p
    else two_trials p q

-- every lane is -infinity, which holds where there is none
unfoldable pub all_ln_zero : List Float → Bool
all_ln_zero xs = list_all (λ x. eq x ln_zero) xs

-- the lowest lane after one more, whose place is i
unfoldable pub lower_of : Lowest → ℕ → Float → Lowest
lower_of l i x =
    if lt x l.value then record { place = i; value = x }
    else l

-- the lowest lane after those from place i on
unfoldable pub lowest_from : Lowest → ℕ → List Float → Lowest
lowest_from l i xs = fold (λ m p. lower_of m p.0 p.1) l (enumerate_from i xs)

-- the lane that a sum starts from: the lowest, the first of several, and lane 0 if none is below +infinity
unfoldable pub start_lane : List Float → Lowest
start_lane xs = lowest_from (record { place = 0; value = plus_infinity }) 0 xs

-- ln(exp x + exp y + ..), folded in the list's order
unfoldable pub ln_sum_exp_fold : Float → List Float → Float
ln_sum_exp_fold x ys = fold ln_sum_exp x ys

-- the lane k with the others folded in, in lane order
unfoldable pub ln_sum_exp_from : List Float → ℕ → Float
ln_sum_exp_from xs k = ln_sum_exp_fold (get_or xs k nan) (take k xs ++ drop (k + 1) xs)

-- the logarithm of the sum of all exponentials: -infinity if every lane is, and else from the start lane
unfoldable pub ln_sum_exp_array : List Float → Float
ln_sum_exp_array xs =
    if all_ln_zero xs then ln_zero
    else ln_sum_exp_from xs (start_lane xs).place

-- the logarithm of a quotient
unfoldable pub ln_normalize : Float → Float → Float
ln_normalize v n = v ⊖ n

-- the logarithm of the complement
unfoldable pub ln_not : Float → Float
ln_not x = ln_one_minus_exp x
