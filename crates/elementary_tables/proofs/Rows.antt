-- A table of 128 rows that are a function's values, asked at a place that is held to the last. Assumes nothing.
use Rattle.std.proofs.Common.{◌≡◌, ℕ, List, ◌∙◌, min, map, get_or, arith}
use Rattle.std.specs.List.{range_with_len}
use Rattle.std.proofs.lemmas.List.FromFn.{get_or-map-range_with_len}

pub row_is : {X : Type 0} (f : ℕ → X) → ((j : ℕ) → f (min j 127) ≡ f j) → (rows : List X) → rows ≡ map f (range_with_len 0 128) → (j : ℕ) (d : X) → get_or rows (min j 127) d ≡ f j
row_is f held rows e j d = rw e (get_or-map-range_with_len f 0 128 (min j 127) (min j 127) d (omega arith) (omega arith) ∙ held j)
