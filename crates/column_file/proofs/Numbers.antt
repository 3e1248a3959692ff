-- What a reader says has the number of what was refused. Assumes nothing.
use mathlib.Core.Path.{◌≡◌, ◌∙◌, ap}
use Rattle.refusals.specs.Refusals.{number_in}
use Rattle.refusals.specs.Result.{Result, map_ok}
use Rattle.refusals.proofs.Numbers.{number_in-map_ok}

pub said : {A B : Type 0} (f : A → B) (q : Result A) (r : Result B) → r ≡ map_ok f q → record { reading : r ≡ map_ok f q; number : number_in r ≡ number_in q }
said f q r e = record { reading = e; number = ap number_in e ∙ number_in-map_ok f q }

pub same_said : {A : Type 0} (q r : Result A) → r ≡ q → record { reading : r ≡ q; number : number_in r ≡ number_in q }
same_said q r e = record { reading = e; number = ap number_in e }
