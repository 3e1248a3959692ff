-- What is refused: it is counted whatever it refuses, and leaves the builder as it was. Assumes nothing.
use Rattle.std.proofs.Common.{◌≡◌, ℕ, eqb, List, Ok, Err, refl}
use Rattle.std.specs.Prelude.{Float}
use Rattle.words.proofs.Cases.{test}
use Rattle.refusals.specs.declared.Refusal.{Refusal}
use Rattle.refusals.specs.Result.{Verdict, judged}
use Rattle.tie_rules.specs.Lanes.{no_lane, lane_of_byte}
use Rattle.base_builder.specs.declared.builder.ConsensusBaseBuilder.{ConsensusBaseBuilder}
use Rattle.base_builder.specs.Builder.{is_full, added, added_by, add_answer}
use Rattle.export_scripts.specs.Script.{refusals}

pub refusals-judged : {A : Type 0} (v : Verdict) (a : A) (n : ℕ) → refusals (judged v a) n ≡ refusals v n
refusals-judged (Ok u) a n = refl
refusals-judged (Err r) a n = refl

pub refused_left : (correct error : List Float) (base q : ℕ) (b : ConsensusBaseBuilder) {r : Refusal} → Err r ≡ add_answer base b → b ≡ added correct error base q b
unfolding added added_by add_answer
refused_left correct error base q b {r} e =
    test (eqb (lane_of_byte base) no_lane)
    (λ t. rw t)
    (λ f. test (is_full b) (λ t. rw (f, t)) (λ g. absurd (let taken : ◌≡◌ {A = Verdict} (Err r) (Ok tt) = rw (f, g) at e in cc)))
