-- The numbers of the conditions (SCOPE 7).
use Rattle.std.specs.Prelude.{ℕ, zero, suc, Err, Ok}
use Rattle.refusals.specs.declared.Refusal.{Refusal}
use Rattle.refusals.specs.declared.Refusal.TheVariants.{FileTooLong, CutOff, BadSettings, AbsentQuality, NoStrings, LengthsDiffer, NotAscii, UnlikeFirst, Mixed, BufferTooShort, FullBuilder, NoRoomForPart, OutOfTurn}
use Rattle.refusals.specs.Result.{Result}

-- the number of a refusal
abbrev pub number_of : Refusal → ℕ
number_of FileTooLong = 1
number_of CutOff = 2
number_of BadSettings = 3
number_of AbsentQuality = 4
number_of NoStrings = 5
number_of LengthsDiffer = 6
number_of NotAscii = 7
number_of UnlikeFirst = 8
number_of Mixed = 9
number_of BufferTooShort = 10
number_of FullBuilder = 11
number_of NoRoomForPart = 12
number_of OutOfTurn = 13

-- the number by which something is refused, 0 where it is accepted
abbrev pub number_in : {A : Type 0} → Result A → ℕ
number_in (Err r) = number_of r
number_in (Ok a) = 0

-- the first of two numbers that is not 0
abbrev pub first_number : ℕ → ℕ → ℕ
first_number zero n = n
first_number (suc m) n = suc m
