-- Condition 11: by whether the byte is a base and whether the builder is full. Assumes nothing.
use mathlib.Core.Path.{◌≡◌, refl}
use mathlib.Core.Bool.{Bool, true, false, not, ◌&&◌, ◌||◌}
use Prim.Native.Nat.{ℕ}
use native.Mathlib.Omega.{arith}
use lib.Dec.{eqb}
use Rattle.std.specs.Prelude.{if◌then◌else◌}
use Rattle.std.specs.Prelude.{Ok, Err}
use Rattle.words.proofs.Cases.{clash}
use Rattle.refusals.specs.declared.Refusal.TheVariants.{FullBuilder}
use Rattle.refusals.specs.Result.{Verdict}
use Rattle.refusals.specs.Refusals.{number_in}
use Rattle.tie_rules.specs.Lanes.{no_lane, lane_of_byte}
use Rattle.base_builder.specs.declared.builder.ConsensusBaseBuilder.{ConsensusBaseBuilder}
use Rattle.base_builder.specs.Builder.{is_full, added_by, added, add_answer}
use Rattle.base_builder_laws.specs.AddConditions.{AddConditions}

-- the answer, where the byte is no base (n) and where the builder is full (f)
abbrev said : Bool → Bool → Verdict
said n f =
    if n then Ok tt
    else if f then Err FullBuilder
    else Ok tt

said_full : (n f : Bool) → (not n && f) ≡ true → number_in (said n f) ≡ 11
said_full true f h = clash refl h
said_full false true h = refl
said_full false false h = clash refl h

said_else : (n f : Bool) → (not n && f) ≡ false → number_in (said n f) ≡ 0
said_else true f h = refl
said_else false true h = clash h refl
said_else false false h = refl

said_unchanged : (n f : Bool) → number_in (said n f) ≡ 11 → (b c : ConsensusBaseBuilder) → (if n || f then b else c) ≡ b
said_unchanged true f h b c = refl
said_unchanged false true h b c = refl
said_unchanged false false h b c = absurd (omega arith)

pub add_conditions : (base : ℕ) (b : ConsensusBaseBuilder) → AddConditions base b
unfolding add_answer added added_by
add_conditions base b =
    let n = eqb (lane_of_byte base) no_lane in
    record {
      full = said_full n (is_full b);
      accepted_else = said_else n (is_full b);
      unchanged = λ h correct error q. said_unchanged n (is_full b) h b _;
    }
