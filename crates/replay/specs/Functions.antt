-- The functions whose answers are compared, and the kinds of lines, by the letter that a line starts with.
use Rattle.std.specs.Prelude.{ℕ, ◌+◌, ◌*◌, ◌==◌, Option, Some, None}
use Rattle.replay.specs.declared.functions.Function.{Function}
use Rattle.replay.specs.declared.functions.Function.TheVariants.{OfLevel, OfNumber, OfPair, LnSumExpArray, LnProbToPhred}
use Rattle.replay.specs.declared.functions.LevelFunction.TheVariants.{PhredToLnErrorProb, PhredToLnCorrectProb}
use Rattle.replay.specs.declared.functions.NumberFunction.TheVariants.{Exp, Ln, LnOnePlus, ExpMinusOne, LogOnePlusExp, LnOneMinusExp, LnNot}
use Rattle.replay.specs.declared.functions.PairFunction.TheVariants.{LnAMinusB, LnErrorProbTwoTrials, LnSumExp, LnNormalize}
use Rattle.replay.specs.declared.functions.LineKind.{LineKind}
use Rattle.replay.specs.declared.functions.LineKind.TheVariants.{FunctionLine, BuilderLine, ListingLine}
use Rattle.std.specs.Prelude.{if◌then◌else◌}

-- no line has more bytes
abbrev pub longest_line : ℕ
longest_line = 1292

-- the letters are e l p m q r f g c d t s a z n b x
unfoldable pub kind_of : ℕ → Option LineKind
kind_of letter =
    if letter == 101 then Some (FunctionLine (OfNumber Exp))
    else if letter == 108 then Some (FunctionLine (OfNumber Ln))
    else if letter == 112 then Some (FunctionLine (OfNumber LnOnePlus))
    else if letter == 109 then Some (FunctionLine (OfNumber ExpMinusOne))
    else if letter == 113 then Some (FunctionLine (OfLevel PhredToLnErrorProb))
    else if letter == 114 then Some (FunctionLine (OfLevel PhredToLnCorrectProb))
    else if letter == 102 then Some (FunctionLine LnProbToPhred)
    else if letter == 103 then Some (FunctionLine (OfNumber LogOnePlusExp))
    else if letter == 99 then Some (FunctionLine (OfNumber LnOneMinusExp))
    else if letter == 100 then Some (FunctionLine (OfPair LnAMinusB))
    else if letter == 116 then Some (FunctionLine (OfPair LnErrorProbTwoTrials))
    else if letter == 115 then Some (FunctionLine (OfPair LnSumExp))
    else if letter == 97 then Some (FunctionLine LnSumExpArray)
    else if letter == 122 then Some (FunctionLine (OfPair LnNormalize))
    else if letter == 110 then Some (FunctionLine (OfNumber LnNot))
    else if letter == 98 then Some BuilderLine
    else if letter == 120 then Some ListingLine
    else None

-- how many arguments a function takes
abbrev pub arguments_of : Function → ℕ
arguments_of (OfLevel f) = 1
arguments_of (OfNumber f) = 1
arguments_of (OfPair f) = 2
arguments_of LnSumExpArray = 4
arguments_of LnProbToPhred = 1

-- how many bytes a line has: a letter, a space and 16 digits for each number or the fields of bytes, a newline
abbrev pub length_of : LineKind → ℕ
length_of (FunctionLine f) = 17 * arguments_of f + 19
length_of BuilderLine = 450
length_of ListingLine = 1292

-- of a line with a letter: of an unknown one, the letter and the space
abbrev pub length_by : Option LineKind → ℕ
length_by (Some kind) = length_of kind
length_by None = 2
