-- Replies in one number.
use Rattle.std.specs.Prelude.{ℕ, ◌+◌, ◌*◌, Bool, true, false, Err, Ok}
use Rattle.refusals.specs.Refusals.{number_of}
use Rattle.refusals.specs.Result.{Result}
use Rattle.export_umi.specs.declared.codes.Given.{Given}

-- 1 for true
abbrev pub bit : Bool → ℕ
bit true = 1
bit false = 0

-- a string's length and two flags, above every refusal's number
abbrev pub given_code : ℕ → Bool → Bool → ℕ
given_code n a b = 256 + 4 * n + 2 * bit b + bit a

-- an answer's code: the number of a refusal, or the length with the flags that there are
abbrev pub code_of : Result Given → ℕ
code_of (Err r) = number_of r
code_of (Ok given) = given_code given.length given.had_errors_a given.had_errors_b
