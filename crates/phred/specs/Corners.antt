-- The corners of phred.rs (SCOPE 2) that a computation settles, and each level's way to its logarithm and back.
use Rattle.std.specs.Prelude.{ℕ, Bool, List, [], ◌∷◌, eqb}
use Rattle.std.specs.Float.{nan}
use Rattle.std.specs.Float.Ieee.{neg, is_nan}
use Rattle.float.specs.Ops.{◌⊘◌, whole, plus_zero, one, six, plus_infinity}
use Rattle.float.specs.Claims.{same}
use Rattle.words.specs.Claims.{every_from}
use Rattle.phred.specs.Phred.{ten, log1pexp_zero, ln_zero, clamped, max_phred_as_ln_error, thousandth, minus37, plus18, plus33·3, phred_to_ln_error_prob, phred_to_ln_correct_prob, ln_prob_to_phred, log1pexp_of, ln_error_prob_two_trials, ln_sum_exp_array}

-- a level, made a logarithm and a level again, is itself, clamped to 2 .. 93
unfoldable pub comes_back : ℕ → Bool
comes_back q = eqb (ln_prob_to_phred (phred_to_ln_error_prob q)) (clamped q)

-- In turn: the level of NaN, of the infinities, of -0.0, of 0.0; the logarithms of level 0; log1pexp(0) bit for bit; the panic of the Rust at the logarithms
-- (1, 1); the sum of no lanes, of lanes that are all -infinity, and of one lane that is not; every level from 0 to 93 comes back; the constants by the
-- numbers that they are.
abbrev pub corners : List Bool
corners =
    eqb (ln_prob_to_phred nan) 2
    ∷ eqb (ln_prob_to_phred ln_zero) 93
    ∷ eqb (ln_prob_to_phred plus_infinity) 2
    ∷ eqb (ln_prob_to_phred (neg plus_zero)) 2
    ∷ eqb (ln_prob_to_phred plus_zero) 2
    ∷ same (phred_to_ln_error_prob 0) (neg plus_zero)
    ∷ same (phred_to_ln_correct_prob 0) ln_zero
    ∷ same (log1pexp_of plus_zero) log1pexp_zero
    ∷ is_nan (ln_error_prob_two_trials one one)
    ∷ same (ln_sum_exp_array []) ln_zero
    ∷ same (ln_sum_exp_array (ln_zero ∷ ln_zero ∷ ln_zero ∷ ln_zero ∷ [])) ln_zero
    ∷ same (ln_sum_exp_array (ln_zero ∷ neg one ∷ ln_zero ∷ ln_zero ∷ [])) (neg one)
    ∷ every_from comes_back 0 94
    ∷ same ten (whole 10)
    ∷ same max_phred_as_ln_error (phred_to_ln_error_prob 93)
    ∷ same thousandth (one ⊘ whole 1000)
    ∷ same minus37 (neg (whole 37))
    ∷ same plus18 (whole 18)
    ∷ same plus33·3 (whole 333 ⊘ whole 10)
    ∷ same six (whole 6)
    ∷ []
