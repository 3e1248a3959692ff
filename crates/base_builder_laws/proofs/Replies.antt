-- Which lane each calculation names, on any builder, with the tables of any pre-UMI rate. Assumes nothing.
use mathlib.Core.Path.{◌≡◌, refl}
use mathlib.Core.Bool.{Bool, true, false, ◌&&◌}
use Prim.Native.Nat.{ℕ, zero, suc, ◌+◌, ◌%◌, ◌<◌}
use lib.Dec.{ltb, eqb}
use lib.Ieee.Scale.{finite}
use borrow.Author.Tests.{ltb-true}
use Rattle.std.specs.Prelude.{Option, Some, None}
use Rattle.float.specs.Ops.{◌⊕◌, ◌⊖◌}
use Rattle.words.proofs.Cases.{both, choice, clash}
use Rattle.phred.specs.Phred.{ln_prob_to_phred}
use Rattle.phred.specs.Laws.{Level}
use Rattle.phred.proofs.Levels.{levels}
use Rattle.gap_tables.specs.Gaps.{gap_tables}
use Rattle.tie_rules.specs.Lanes.{lane, no_lane, base_of}
use Rattle.tie_rules.specs.Ties.{untied, none_above}
use Rattle.lane_calls.specs.declared.call.Call.{Call}
use Rattle.lane_calls.specs.Calls.{called, no_call}
use Rattle.unanimous_shortcut.specs.Unanimous.{leads, sole_lane, gap_reply, reply_for_lane, unanimous_reply}
use Rattle.lane_calls.specs.Multibase.{rest_below, magnitude_below, final_error, delta_of, stable_reply, rest_reply, multibase_reply}
use Rattle.lane_calls.specs.Full.{full_quality, full_call}
use Rattle.base_builder.specs.declared.builder.ConsensusBaseBuilder.{ConsensusBaseBuilder}
use Rattle.base_builder.specs.Calls.{unanimous_of, multibase_of, call_full_of}
use Rattle.base_builder.specs.History.{ruled}
use Rattle.base_builder_laws.proofs.OwnTables.{Names, gap_names}

-- what the unanimous shortcut asks of its lane
abbrev pub asked : ConsensusBaseBuilder → Bool
asked b =
    let i = sole_lane b.observations in
    let winner = lane b.likelihoods i in
    ltb i no_lane && (leads winner (lane b.likelihoods ((i + 1) % 4)) && (finite winner && untied b.tie_rule b.likelihoods i winner))

-- any claim on its reply: where it asks for the tables' answer, and where it defers
pub unanimous_by : (pre : ℕ) (b : ConsensusBaseBuilder) (P : Option Call → Type 0)
    → ((r : Option Call) → asked b ≡ true → Names (sole_lane b.observations) r → P r) → P None → P (unanimous_of (gap_tables pre) b)
unfolding unanimous_of unanimous_reply reply_for_lane
unanimous_by pre b P f d =
    let i = sole_lane b.observations in
    let winner = lane b.likelihoods i in
    let loser = lane b.likelihoods ((i + 1) % 4) in
    choice P (asked b) (gap_reply (gap_tables pre) i winner loser) None
    (λ h. f _ h (gap_names pre i winner loser (both (leads winner loser) _ (both (ltb i no_lane) _ h).1).0))
    (λ _. d)

-- and on the multibase shortcut's
pub multibase_by : (b : ConsensusBaseBuilder) (P : Option Call → Type 0) → ((r : Option Call) → ruled b < 4 → Names (ruled b) r → P r) → P None → P (multibase_of b)
unfolding multibase_of multibase_reply rest_reply stable_reply
multibase_by b P f d =
    let pre = b.ln_error_pre_umi.0 in
    let xs = b.likelihoods in
    let i = ruled b in
    let m = lane xs i in
    let r = rest_below xs i m 4 in
    let final = final_error pre r in
    let delta = delta_of r (magnitude_below xs m 4) in
    let q = ln_prob_to_phred final in
    choice P (ltb i no_lane && (finite m && (untied b.tie_rule xs i m && none_above xs m))) _ None
    (λ h.
    let inside = ltb-true i 4 (both (ltb i no_lane) _ h).0 in
    choice P (eqb (ln_prob_to_phred (final ⊖ delta)) q && eqb (ln_prob_to_phred (final ⊕ delta)) q) (Some (called i q)) None
    (λ _. f (Some (called i q)) inside (refl, levels final))
    (λ _. d))
    (λ _. d)

-- and on the long calculation's call: the rule's lane with a quality of 2 to 93, or no call
pub full_by : (b : ConsensusBaseBuilder) (P : Call → Type 0) → ((q : ℕ) → ruled b < 4 → Level q → P (called (ruled b) q)) → (ltb (ruled b) 4 ≡ false → P no_call) → P (call_full_of b)
unfolding call_full_of full_call full_quality
full_by b P f g =
    choice P (ltb (ruled b) no_lane) (called (ruled b) _) no_call
    (λ h. f _ (ltb-true (ruled b) 4 h) (levels _))
    g

-- past the lanes there is no base but N
no_base : (i : ℕ) → ltb i 4 ≡ false → 78 ≡ base_of i
unfolding base_of
no_base zero h = clash h refl
no_base (suc zero) h = clash h refl
no_base (suc (suc zero)) h = clash h refl
no_base (suc (suc (suc zero))) h = clash h refl
no_base (suc (suc (suc (suc i)))) h = refl

-- so it names the rule's lane
pub full_base : (b : ConsensusBaseBuilder) → (call_full_of b).base ≡ base_of (ruled b)
unfolding base_of
full_base b = full_by b (λ (c : Call). c.base ≡ base_of (ruled b)) (λ q _ _. refl) (λ h. no_base (ruled b) h)
