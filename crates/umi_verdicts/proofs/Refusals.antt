-- The first faulty column, column by column. Assumes nothing.
use Rattle.std.specs.Prelude.{Err, Ok}
use mathlib.Core.Path.{◌≡◌, sym, ◌∙◌, ap}
use mathlib.Core.List.{List, []}
use Prim.Native.Nat.{ℕ, ◌+◌, ◌≤◌, ◌<◌}
use native.Mathlib.Numerals.{add-one}
use lib.ListN.{length, take, drop, get_or, drop_of_length-le}
use lib.Seq.{drop-cons}
use Rattle.refusals.specs.declared.Refusal.{Refusal}
use Rattle.refusals.specs.Result.{first_refused, Verdict}
use Rattle.umi_column.specs.Verdicts.{verdict_of}
use Rattle.umi_rows.specs.Rows.{gathered_at, row_columns_at}
use Rattle.umi_rows.proofs.ColumnLoops.{column_at_lem, gathered}

-- the first faulty column, of which k are passed
module _ (cs : List (List ℕ)) (k : ℕ) where
  pub refusal_more : k < length cs → verdict_of (get_or cs k []) ≡ Ok tt → first_refused verdict_of (drop (k + 1) cs) ≡ first_refused verdict_of (drop k cs)
  refusal_more h e = rw (add-one k, drop-cons cs k [] h, e)

  pub refusal_found : k < length cs → (r : Refusal) → verdict_of (get_or cs k []) ≡ Err r → Err r ≡ first_refused verdict_of (drop k cs)
  refusal_found h r e = rw (drop-cons cs k [] h, e)

  pub refusal_none : length cs ≤ k → Ok tt ≡ first_refused verdict_of (drop k cs)
  refusal_none h = rw (drop_of_length-le cs h)

-- what is said of a gathered column is said of the family's column there
pub column_said : (w : ℕ) (s ps : List ℕ) (at : ℕ) (column : List ℕ) (v : Verdict) → length ps ≤ 255 → at < w → column ≡ gathered_at at s ps → v ≡ verdict_of (take (length ps) column)
    → verdict_of (get_or (row_columns_at w s ps) at []) ≡ v
column_said w s ps at column v few h g said =
    ap verdict_of (column_at_lem w s ps at h ∙ sym (gathered s ps at column few g)) ∙ sym said
