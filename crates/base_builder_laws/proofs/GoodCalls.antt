-- What a call can be: with the tables of any pre-UMI rate every builder is called A, C, G or T with a quality of 2 to 93, or N with exactly 2; so
-- do the long calculation and each shortcut that replies. Assumes nothing.
use mathlib.Core.Path.{◌≡◌, refl}
use mathlib.Core.Bool.{true}
use Prim.Native.Nat.{ℕ, zero, suc, ◌<◌}
use native.Mathlib.Omega.{arith}
use lib.Dec.{T, eqb, ltb}
use borrow.Author.Tests.{le-leb, ltb-true}
use Rattle.std.specs.Prelude.{Option, Some, None, unwrap_or}
use Rattle.words.proofs.Cases.{both, choice}
use Rattle.phred.specs.Laws.{Level}
use Rattle.gap_tables.specs.Gaps.{gap_tables}
use Rattle.tie_rules.specs.Lanes.{no_lane, base_of}
use Rattle.lane_calls.specs.declared.call.Call.{Call}
use Rattle.lane_calls.specs.Calls.{no_call}
use Rattle.unanimous_shortcut.specs.Unanimous.{sole_lane}
use Rattle.base_builder.specs.declared.builder.ConsensusBaseBuilder.{ConsensusBaseBuilder}
use Rattle.base_builder.specs.Builder.{contributions_of}
use Rattle.base_builder.specs.Calls.{unanimous_of, multibase_of, call_full_of, long_way, call_of}
use Rattle.base_builder_laws.specs.GoodCalls.{is_called_base, is_call, replies_well, GoodCalls}
use Rattle.base_builder_laws.proofs.OwnTables.{Names}
use Rattle.base_builder_laws.proofs.Replies.{unanimous_by, multibase_by, full_by}

lane_is_base : (i : ℕ) → i < 4 → is_called_base (base_of i) ≡ true
unfolding base_of
lane_is_base zero h = refl
lane_is_base (suc zero) h = refl
lane_is_base (suc (suc zero)) h = refl
lane_is_base (suc (suc (suc zero))) h = refl
lane_is_base (suc (suc (suc (suc i)))) h = absurd (omega arith)

good : (c : Call) (i : ℕ) → i < 4 → c.base ≡ base_of i → Level c.qual.0 → T (is_call c)
unfolding is_call
good c i h e l = rw (e, lane_is_base i h, le-leb 2 c.qual.0 l.0, le-leb c.qual.0 93 l.1) tt

names_well : (i : ℕ) → i < 4 → (r : Option Call) → Names i r → T (replies_well r)
names_well i h (Some c) n = good c i h n.0 n.1
names_well i h None n = tt

no_call_lem : T (is_call no_call)
unfolding is_call base_of
no_call_lem = tt

full_well : (b : ConsensusBaseBuilder) → T (is_call (call_full_of b))
full_well b = full_by b (λ (c : Call). T (is_call c)) (λ q h l. good _ _ h refl l) (λ _. no_call_lem)

unanimous_well : (pre : ℕ) (b : ConsensusBaseBuilder) → T (replies_well (unanimous_of (gap_tables pre) b))
unanimous_well pre b =
    let i = sole_lane b.observations in
    unanimous_by pre b (λ (r : Option Call). T (replies_well r)) (λ r h n. names_well i (ltb-true i 4 (both (ltb i no_lane) _ h).0) r n) tt

multibase_well : (b : ConsensusBaseBuilder) → T (replies_well (multibase_of b))
multibase_well b = multibase_by b (λ (r : Option Call). T (replies_well r)) (λ r h n. names_well _ h r n) tt

-- what is replied, or else the other
pub or_well : (r : Option Call) (c : Call) → T (replies_well r) → T (is_call c) → T (is_call (unwrap_or r c))
or_well (Some short) c h k = h
or_well None c h k = k

pub good_calls : (pre : ℕ) (b : ConsensusBaseBuilder) → GoodCalls pre b
unfolding call_of long_way
good_calls pre b = record {
  call =
      choice (λ (c : Call). T (is_call c)) (eqb (contributions_of b) 0) no_call _ (λ _. no_call_lem)
      (λ _. or_well (unanimous_of (gap_tables pre) b) _ (unanimous_well pre b) (or_well (multibase_of b) (call_full_of b) (multibase_well b) (full_well b)));
  full = full_well b;
  unanimous = unanimous_well pre b;
  multibase = multibase_well b;
}
