-- What SCOPE 8 asks of the four functions, claim by claim.
use Rattle.std.specs.Prelude.{ℕ, ◌-◌, ◌^◌, ◌≡◌, Bool, false, ◌&&◌, List, [], ◌∷◌, Float}
use Rattle.std.specs.Float.{nan}
use Rattle.std.specs.Float.Ieee.{lt, neg}
use Rattle.std.specs.Float.Ieee.Scale.{finite}
use Rattle.float.specs.Ops.{plus_zero, one, two, plus_infinity}
use Rattle.float.specs.Claims.{same}
use Rattle.words.specs.Claims.{every_from}
use Rattle.elementary.specs.Exp.{power_of_two_of, exp_of}
use Rattle.elementary.specs.ExpMinusOne.{exp_minus_one_of}
use Rattle.elementary.specs.Ln.{ln_of}
use Rattle.elementary.specs.LnOnePlus.{ln_one_plus_of}
use Rattle.phred.specs.Phred.{phred_to_ln_error_prob}
use Rattle.elementary_laws.specs.Fraction.{Fraction, value, ratio, plus, minus, times, power, at_most, within}

-- at the point x = phred_to_ln_error_prob(q), with v = exp x: (v(1 - 2^-40))^10 · 10^q ≤ 1 ≤ (v(1 + 2^-40))^10 · 10^q
unfoldable pub exp_at_level : ℕ → Bool
exp_at_level q =
    let v = exp_of (phred_to_ln_error_prob q) in
    let unit = ratio 1 1 in
    let slack = ratio 1 (2 ^ 40) in
    let scale = ratio (10 ^ q) 1 in
    finite v && at_most (times (power (times (value v) (minus unit slack)) 10) scale) unit
    && at_most unit (times (power (times (value v) (plus unit slack)) 10) scale)

-- there ln v is within 2^-40 of x
unfoldable pub ln_at_level : ℕ → Bool
ln_at_level q =
    let x = phred_to_ln_error_prob q in
    let y = ln_of (exp_of x) in
    finite y && within (ratio 1 (2 ^ 40)) (value y) (value x)

-- and exp(x) - 1, as computed at once, is within 2^-40 of v - 1
unfoldable pub exp_minus_one_at_level : ℕ → Bool
exp_minus_one_at_level q =
    let x = phred_to_ln_error_prob q in
    let y = exp_minus_one_of x in
    finite y && within (ratio 1 (2 ^ 40)) (value y) (minus (value (exp_of x)) (ratio 1 1))

-- u - u²/2 at u = 2^-k
abbrev pub less_half_square : ℕ → Fraction
less_half_square k = minus (ratio 1 (2 ^ k)) (times (ratio 1 2) (times (ratio 1 (2 ^ k)) (ratio 1 (2 ^ k))))

-- at u = 2^-k ln(1 + u) is within u · 2^-39 of u - u²/2
unfoldable pub ln_one_plus_at_power : ℕ → Bool
ln_one_plus_at_power k =
    let y = ln_one_plus_of (power_of_two_of (1023 - k)) in
    finite y && within (times (ratio 1 (2 ^ k)) (ratio 1 (2 ^ 39))) (value y) (less_half_square k)

-- and exp(-u) - 1 of -u + u²/2
unfoldable pub exp_minus_one_at_power : ℕ → Bool
exp_minus_one_at_power k =
    let y = exp_minus_one_of (neg (power_of_two_of (1023 - k))) in
    finite y && within (times (ratio 1 (2 ^ k)) (ratio 1 (2 ^ 39))) (value y) (minus (ratio 0 1) (less_half_square k))

-- at NaN, the zeros and the infinities, and at 1, -1 and below, the values that IEEE 754 names (section 9.2.1)
abbrev pub named : List Bool
named =
    same (exp_of nan) nan
    ∷ same (exp_of plus_zero) one
    ∷ same (exp_of (neg plus_zero)) one
    ∷ same (exp_of plus_infinity) plus_infinity
    ∷ same (exp_of (neg plus_infinity)) plus_zero
    ∷ same (ln_of nan) nan
    ∷ same (ln_of plus_zero) (neg plus_infinity)
    ∷ same (ln_of (neg plus_zero)) (neg plus_infinity)
    ∷ same (ln_of plus_infinity) plus_infinity
    ∷ same (ln_of (neg plus_infinity)) nan
    ∷ same (ln_of one) plus_zero
    ∷ same (ln_of (neg one)) nan
    ∷ same (ln_one_plus_of nan) nan
    ∷ same (ln_one_plus_of plus_zero) plus_zero
    ∷ same (ln_one_plus_of (neg plus_zero)) (neg plus_zero)
    ∷ same (ln_one_plus_of plus_infinity) plus_infinity
    ∷ same (ln_one_plus_of (neg plus_infinity)) nan
    ∷ same (ln_one_plus_of (neg one)) (neg plus_infinity)
    ∷ same (ln_one_plus_of (neg two)) nan
    ∷ same (exp_minus_one_of nan) nan
    ∷ same (exp_minus_one_of plus_zero) plus_zero
    ∷ same (exp_minus_one_of (neg plus_zero)) (neg plus_zero)
    ∷ same (exp_minus_one_of plus_infinity) plus_infinity
    ∷ same (exp_minus_one_of (neg plus_infinity)) (neg one)
    ∷ []

-- no argument gives an exp below 0
abbrev pub ExpNeverBelow0 : Type 0
ExpNeverBelow0 = (x : Float) → lt (exp_of x) plus_zero ≡ false

-- all that is computed: the 94 levels, k from 20 to 60, and the named values
abbrev pub claims : List Bool
claims =
    every_from exp_at_level 0 94
    ∷ every_from ln_at_level 0 94
    ∷ every_from exp_minus_one_at_level 0 94
    ∷ every_from ln_one_plus_at_power 20 41
    ∷ every_from exp_minus_one_at_power 20 41
    ∷ named
