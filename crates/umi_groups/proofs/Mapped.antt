-- What is made of a value, taken back. Assumes nothing.
use Rattle.std.specs.Prelude.{Err, Ok}
use Rattle.std.proofs.Common.{◌≡◌, refl, ap}
use Rattle.refusals.specs.declared.Refusal.{Refusal}
use Rattle.refusals.specs.Result.{Result, map_ok}

pub map_refused : {A B : Type 0} (f : A → B) (t : Result A) (r : Refusal) → map_ok f t ≡ Err r → t ≡ Err r
map_refused f (Err x) r e =
    let same : x ≡ r = cc in
    rw same
map_refused f (Ok a) r e = absurd cc

pub map_given : {A B : Type 0} (f : A → B) (t : Result A) (b : B) → map_ok f t ≡ Ok b → (a : A) × (t ≡ Ok a) × (f a ≡ b)
map_given f (Err x) b e = absurd cc
map_given f (Ok a) b e = (a, refl, cc)

-- what is made of a value in two steps
pub map_made : {A B C : Type 0} (f : A → B) (h : A → C) (k : B → C) → ((a : A) → k (f a) ≡ h a) → (t : Result A) (b : B) → map_ok f t ≡ Ok b → Ok (k b) ≡ map_ok h t
map_made f h k same (Err x) b e = absurd cc
map_made f h k same (Ok a) b e =
    let made : f a ≡ b = cc in
    rw (← made) (ap Ok (same a))
