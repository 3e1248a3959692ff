-- What is printed of a refused input.
use Rattle.std.specs.Prelude.{ℕ, List, [], ◌∷◌, Err, Ok}
use Rattle.refusals.specs.declared.Refusal.{Refusal}
use Rattle.refusals.specs.Refusals.{number_of}
use Rattle.refusals.specs.Result.{Result}
use Rattle.lent_text.specs.Text.{letters, decimal, line}

-- its number alone
unfoldable pub refusal_line : Refusal → List ℕ
refusal_line r = line (letters "refused" ∷ decimal (number_of r) ∷ [])

-- what is printed of a result: the text, or the line of a refusal
abbrev pub printed : Result (List ℕ) → List ℕ
printed (Err r) = refusal_line r
printed (Ok t) = t
