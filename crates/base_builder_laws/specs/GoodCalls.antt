-- What a call can be.
use Rattle.std.specs.Prelude.{Option, Some, None, ℕ, Bool, true, ◌&&◌, ◌||◌, T, leb, eqb}
use Rattle.gap_tables.specs.Gaps.{gap_tables}
use Rattle.lane_calls.specs.declared.call.Call.{Call}
use Rattle.base_builder.specs.declared.builder.ConsensusBaseBuilder.{ConsensusBaseBuilder}
use Rattle.base_builder.specs.Calls.{unanimous_of, multibase_of, call_full_of, call_of}

-- A, C, G or T
abbrev pub is_called_base : ℕ → Bool
is_called_base x = eqb x 65 || (eqb x 67 || (eqb x 71 || eqb x 84))

-- A, C, G or T with a quality of 2 to 93, or N with exactly 2
unfoldable pub is_call : Call → Bool
is_call c =
    let q = c.qual.0 in
    is_called_base c.base && (leb 2 q && leb q 93) || eqb c.base 78 && eqb q 2

-- a shortcut that replies gives such a call
abbrev pub replies_well : Option Call → Bool
replies_well (Some c) = is_call c
replies_well None = true

-- Any builder, with the tables of any pre-UMI rate, its own or another: the call, the long calculation and each shortcut's reply.
pub record GoodCalls (pre : ℕ) (b : ConsensusBaseBuilder) : Type 0 where
  pub call : T (is_call (call_of (gap_tables pre) b))
  pub full : T (is_call (call_full_of b))
  pub unanimous : T (replies_well (unanimous_of (gap_tables pre) b))
  pub multibase : T (replies_well (multibase_of b))
