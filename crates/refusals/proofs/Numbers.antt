-- An answer that says what was refused has its number, which is small, and the first of two tests that refuses gives its own. Assumes nothing.
use Rattle.std.specs.Prelude.{Err, Ok}
use mathlib.Core.Path.{◌≡◌, refl, ◌∙◌, ap}
use Prim.Native.Nat.{ℕ, ◌<◌}
use native.Mathlib.Omega.{arith}
use Rattle.refusals.specs.declared.Refusal.{Refusal}
use Rattle.refusals.specs.declared.Refusal.TheVariants.{FileTooLong, CutOff, BadSettings, AbsentQuality, NoStrings, LengthsDiffer, NotAscii, UnlikeFirst, Mixed, BufferTooShort, FullBuilder, NoRoomForPart, OutOfTurn}
use Rattle.refusals.specs.Refusals.{number_of, number_in, first_number}
use Rattle.refusals.specs.Result.{Result, map_ok, or_else, Verdict}

-- an answer that is known, and then its number
pub said_number : {R : Type 0} (number : R → ℕ) (d : R) (n : ℕ) → number d ≡ n → (r : R) → r ≡ d → (r ≡ d) × (number r ≡ n)
said_number number d n same r e = (e, ap number e ∙ same)

-- whatever is answered, where each answer's number is that of the result
pub numbered : {A R : Type 0} (answer : Result A → R) (number : R → ℕ) → ((q : Result A) → number (answer q) ≡ number_in q)
    → (r : R) (q : Result A) → r ≡ answer q → (r ≡ answer q) × (number r ≡ number_in q)
numbered answer number same r q e = said_number number (answer q) (number_in q) (same q) r e

-- what is made of a value changes no number
pub number_in-map_ok : {A B : Type 0} (f : A → B) (q : Result A) → number_in (map_ok f q) ≡ number_in q
number_in-map_ok f (Err r) = refl
number_in-map_ok f (Ok a) = refl

-- the number of two tests in turn is the first that is not 0: no refusal's number is 0
pub number_in-or_else : (v w : Verdict) → number_in (or_else v w) ≡ first_number (number_in v) (number_in w)
number_in-or_else (Ok _) w = refl
number_in-or_else (Err FileTooLong) w = refl
number_in-or_else (Err CutOff) w = refl
number_in-or_else (Err BadSettings) w = refl
number_in-or_else (Err AbsentQuality) w = refl
number_in-or_else (Err NoStrings) w = refl
number_in-or_else (Err LengthsDiffer) w = refl
number_in-or_else (Err NotAscii) w = refl
number_in-or_else (Err UnlikeFirst) w = refl
number_in-or_else (Err Mixed) w = refl
number_in-or_else (Err BufferTooShort) w = refl
number_in-or_else (Err FullBuilder) w = refl
number_in-or_else (Err NoRoomForPart) w = refl
number_in-or_else (Err OutOfTurn) w = refl

-- a number of two digits
pub number_small : (r : Refusal) → number_of r < 100
number_small FileTooLong = omega arith
number_small CutOff = omega arith
number_small BadSettings = omega arith
number_small AbsentQuality = omega arith
number_small NoStrings = omega arith
number_small LengthsDiffer = omega arith
number_small NotAscii = omega arith
number_small UnlikeFirst = omega arith
number_small Mixed = omega arith
number_small BufferTooShort = omega arith
number_small FullBuilder = omega arith
number_small NoRoomForPart = omega arith
number_small OutOfTurn = omega arith
