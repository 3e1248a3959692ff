-- The builder after a column and the column's byte, as the code has them and as they are defined. Assumes nothing.
use mathlib.Core.Path.{◌≡◌, refl, sym, ap}
use mathlib.Core.Bool.{Bool, true, false, ◌&&◌, ◌||◌}
use mathlib.Core.List.{List, [], ◌∷◌, map}
use Prim.Native.Nat.{ℕ, min}
use lib.Dec.{T, leb, eqb}
use lib.Ieee.{nan}
use lib.ListN.{get_or}
use Rattle.std.specs.Prelude.{if◌then◌else◌}
use Rattle.words.specs.Lists.{byte_at}
use Rattle.rate_tables.specs.Adjusted.{adjusted_tables}
use Rattle.gap_tables.specs.Gaps.{gap_tables}
use Rattle.lane_calls.specs.declared.call.Call.{Call}
use Rattle.base_builder.specs.declared.builder.ConsensusBaseBuilder.{ConsensusBaseBuilder}
use Rattle.base_builder.specs.Builder.{reset_of, added}
use Rattle.base_builder.specs.Calls.{call_of}
use Rattle.base_builder.specs.History.{add, step, run}
use Rattle.base_builder_laws.specs.GoodCalls.{is_called_base, is_call}
use Rattle.base_builder_laws.proofs.AfterReset.{after_reset}
use Rattle.base_builder_laws.proofs.GoodCalls.{good_calls}
use Rattle.umi_column.specs.Dna.{is_dna_base}
use Rattle.umi_column.specs.Calls.{column_builder, column_byte, added_all, named_byte}

-- the additions of a column, from any builder
additions : (post q : ℕ) (column : List ℕ) (b : ConsensusBaseBuilder)
    → added_all (get_or (adjusted_tables post).correct (min q 93) nan) (get_or (adjusted_tables post).error_per_alt (min q 93) nan) column b
    ≡ run (adjusted_tables post) (map (λ x. add x q) column) b
unfolding added_all run step added
additions post q [] b = refl
additions post q (x ∷ xs) b = additions post q xs (step (adjusted_tables post) (add x q) b)

-- to add the column's bytes after a reset, with the entries of the tables at the quality, is the column's history
pub column_builder_lem : (post q : ℕ) (column : List ℕ) (b : ConsensusBaseBuilder)
    → added_all (get_or (adjusted_tables post).correct (min q 93) nan) (get_or (adjusted_tables post).error_per_alt (min q 93) nan) column (reset_of b)
    ≡ column_builder post q column b
unfolding column_builder run step
column_builder_lem post q column b = additions post q column (reset_of b)

-- the base of the rule's lane is that of the call
pub column_byte_lem : (pre post q : ℕ) (column : List ℕ) (b : ConsensusBaseBuilder)
    → named_byte (column_builder post q column b) (byte_at column 0) ≡ column_byte pre column (column_builder post q column b)
unfolding named_byte column_byte column_builder
column_byte_lem pre post q column b =
    ap
    (λ (n : ℕ).
    if is_dna_base (byte_at column 0) then n
    else byte_at column 0)
    (sym (after_reset pre post b (map (λ x. add x q) column)).call_base)

-- ---- what a column gives

kind : (a b c d : Bool) → T (a && b || c && d) → (a || c) ≡ true
kind true b c d h = refl
kind false b true d h = refl
kind false b false d h = absurd h

call_kind : (c : Call) → T (is_call c) → (is_called_base c.base || eqb c.base 78) ≡ true
unfolding is_call
call_kind c h =
    let q = c.qual.0 in
    kind (is_called_base c.base) (leb 2 q && leb q 93) (eqb c.base 78) (eqb q 2) h

-- where the first byte is DNA: A, C, G, T or N, whatever the builder
pub column_byte_kind : (pre : ℕ) (column : List ℕ) (after : ConsensusBaseBuilder) → is_dna_base (byte_at column 0) ≡ true
    → (is_called_base (column_byte pre column after) || eqb (column_byte pre column after) 78) ≡ true
unfolding column_byte
column_byte_kind pre column after d = rw d (call_kind (call_of (gap_tables pre) after) (good_calls pre after).call)

-- where it is not: that byte
pub column_byte_other : (pre : ℕ) (column : List ℕ) (after : ConsensusBaseBuilder) → is_dna_base (byte_at column 0) ≡ false
    → column_byte pre column after ≡ byte_at column 0
unfolding column_byte
column_byte_other pre column after d = rw d
