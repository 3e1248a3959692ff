-- What is refused, or accepted with a value.
use Rattle.std.specs.Prelude.{Result as StdResult, Ok, Err, List, [], ◌∷◌}
use Rattle.refusals.specs.declared.Refusal.{Refusal}

-- a value, or the condition under which there is none
abbrev pub Result : Type 0 → Type 0
Result A = StdResult A Refusal

-- what a test says
abbrev pub Verdict : Type 0
Verdict = Result (Unit {0})

-- go on with what was accepted
abbrev pub and_then : {A B : Type 0} → Result A → (A → Result B) → Result B
and_then (Err r) f = Err r
and_then (Ok a) f = f a

-- what f makes of a value
abbrev pub map_ok : {A B : Type 0} → (A → B) → Result A → Result B
map_ok f (Err r) = Err r
map_ok f (Ok a) = Ok (f a)

-- a value that a test may refuse
abbrev pub judged : {A : Type 0} → Verdict → A → Result A
judged (Ok _) a = Ok a
judged (Err r) a = Err r

-- the first verdict that refuses
abbrev pub or_else : Verdict → Verdict → Verdict
or_else (Ok _) v = v
or_else (Err r) v = Err r

-- the first of a list that is refused decides
abbrev pub first_refused : {A : Type 0} → (A → Verdict) → List A → Verdict
first_refused verdict [] = Ok tt
first_refused verdict (a ∷ l) = or_else (verdict a) (first_refused verdict l)
