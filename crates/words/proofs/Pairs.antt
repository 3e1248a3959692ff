-- A list two by two. Assumes nothing.
use mathlib.Core.Path.{◌≡◌, sym, ◌∙◌, ap}
use mathlib.Core.List.{List, ◌∷◌}
use Prim.Native.Nat.{ℕ, suc, ◌+◌, ◌<◌}
use native.Mathlib.Numerals.{add-one}
use native.Mathlib.Omega.{arith}
use lib.ListN.{length, get_or, drop}
use lib.Seq.{drop-cons}

-- two numbers and what follows
pub two : (s : List ℕ) (i : ℕ) → i + 1 < length s → drop i s ≡ get_or s i 0 ∷ get_or s (i + 1) 0 ∷ drop (i + 2) s
two s i h =
    let end : suc (i + 1) ≡ i + 2 = omega arith in
    let l : i < length s = omega arith in
    drop-cons s i 0 l
    ∙ ap (λ (k : ℕ). get_or s i 0 ∷ drop k s) (sym (add-one i))
    ∙ ap (λ (l : List ℕ). get_or s i 0 ∷ l) (drop-cons s (i + 1) 0 h ∙ ap (λ (k : ℕ). get_or s (i + 1) 0 ∷ drop k s) end)
