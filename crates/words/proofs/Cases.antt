-- A test is true or false, and what follows from that. Assumes nothing.
use mathlib.Core.Path.{◌≡◌, refl, sym, ◌∙◌}
use mathlib.Core.Bool.{Bool, true, false, ◌&&◌, ◌||◌, false≢true}
use Rattle.std.specs.Prelude.{if◌then◌else◌}

-- whatever follows either way
pub test : (b : Bool) {A : Type 0} → (b ≡ true → A) → (b ≡ false → A) → A
test true h k = h refl
test false h k = k refl

-- no test comes out both ways
pub clash : {A : Type 0} {b : Bool} → b ≡ false → b ≡ true → A
clash f t = absurd (false≢true (sym f ∙ t))

-- a test that would show what is not so fails
pub refuted : (b : Bool) → (b ≡ true → ⊥) → b ≡ false
refuted true h = absurd (h refl)
refuted false h = refl

-- what holds of both ways of a choice holds of the choice; what its test shows may be used
pub choice : {A : Type 0} (P : A → Type 0) (b : Bool) (x y : A) → (b ≡ true → P x) → (b ≡ false → P y) → P (if b then x else y)
choice P true x y h k = h refl
choice P false x y h k = k refl

-- both tests have passed
pub both : (a b : Bool) → (a && b) ≡ true → (a ≡ true) × (b ≡ true)
both true b h = (refl, h)
both false b h = clash refl h

-- both tests have failed
pub neither : (a b : Bool) → (a || b) ≡ false → (a ≡ false) × (b ≡ false)
neither true b h = clash h refl
neither false b h = (refl, h)

-- the second has failed
pub and-false : (a : Bool) → (a && false) ≡ false
and-false true = refl
and-false false = refl
