-- What a function gives for the numbers of a line.
use Rattle.std.specs.Prelude.{ℕ, List, [], ◌∷◌, nat_lt, slice_index, to_bits, Float, Option, Some, None}
use Rattle.std.specs.Float.{binary64}
use Rattle.replay.specs.declared.functions.Function.{Function}
use Rattle.replay.specs.declared.functions.Function.TheVariants.{OfLevel, OfNumber, OfPair, LnSumExpArray, LnProbToPhred}
use Rattle.replay.specs.declared.functions.LevelFunction.{LevelFunction}
use Rattle.replay.specs.declared.functions.LevelFunction.TheVariants.{PhredToLnErrorProb, PhredToLnCorrectProb}
use Rattle.replay.specs.declared.functions.NumberFunction.{NumberFunction}
use Rattle.replay.specs.declared.functions.NumberFunction.TheVariants.{Exp, Ln, LnOnePlus, ExpMinusOne, LogOnePlusExp, LnOneMinusExp, LnNot}
use Rattle.replay.specs.declared.functions.PairFunction.{PairFunction}
use Rattle.replay.specs.declared.functions.PairFunction.TheVariants.{LnAMinusB, LnErrorProbTwoTrials, LnSumExp, LnNormalize}
use Rattle.float.specs.Ops.{bits}
use Rattle.std.specs.Prelude.{if◌then◌else◌}
use Rattle.elementary.specs.Exp.{exp_of}
use Rattle.elementary.specs.Ln.{ln_of}
use Rattle.elementary.specs.LnOnePlus.{ln_one_plus_of}
use Rattle.elementary.specs.ExpMinusOne.{exp_minus_one_of}
use Rattle.phred.specs.Phred.{phred_to_ln_error_prob, phred_to_ln_correct_prob, ln_prob_to_phred, log1pexp_of, ln_one_minus_exp, ln_a_minus_b, ln_error_prob_two_trials, ln_sum_exp, ln_sum_exp_array, ln_normalize, ln_not}

-- a function's value at a level
abbrev pub at_level : LevelFunction → ℕ → Float
at_level PhredToLnErrorProb n = phred_to_ln_error_prob n
at_level PhredToLnCorrectProb n = phred_to_ln_correct_prob n

-- at a number
abbrev pub at_number : NumberFunction → Float → Float
at_number Exp x = exp_of x
at_number Ln x = ln_of x
at_number LnOnePlus x = ln_one_plus_of x
at_number ExpMinusOne x = exp_minus_one_of x
at_number LogOnePlusExp x = log1pexp_of x
at_number LnOneMinusExp x = ln_one_minus_exp x
at_number LnNot x = ln_not x

-- at two numbers
abbrev pub at_pair : PairFunction → Float → Float → Float
at_pair LnAMinusB x y = ln_a_minus_b x y
at_pair LnErrorProbTwoTrials x y = ln_error_prob_two_trials x y
at_pair LnSumExp x y = ln_sum_exp x y
at_pair LnNormalize x y = ln_normalize x y

-- the bit pattern of x: 0x7ff8_0000_0000_0000 for a NaN, as the list has it
abbrev pub bit_pattern : Float → Option ℕ
bit_pattern x = Some (to_bits binary64 x)

-- that of a function's value at a level, which has 8 bits
abbrev pub level_answer : LevelFunction → ℕ → Option ℕ
level_answer f n =
    if nat_lt 255 n then None
    else bit_pattern (at_level f n)

-- number k of a line, as an f64
abbrev pub real_at : List ℕ → ℕ → Float
real_at ns k = bits (slice_index ns k)

-- what the function gives for the arguments that the numbers start with: the bit pattern of its value, or a level
abbrev pub our_answer_of : Function → List ℕ → Option ℕ
our_answer_of (OfLevel f) ns = level_answer f (slice_index ns 0)
our_answer_of (OfNumber f) ns = bit_pattern (at_number f (real_at ns 0))
our_answer_of (OfPair f) ns = bit_pattern (at_pair f (real_at ns 0) (real_at ns 1))
our_answer_of LnSumExpArray ns = bit_pattern (ln_sum_exp_array (real_at ns 0 ∷ real_at ns 1 ∷ real_at ns 2 ∷ real_at ns 3 ∷ []))
our_answer_of LnProbToPhred ns = Some (ln_prob_to_phred (real_at ns 0))
