-- A writer's number leads back to it, and a number's writer back to the number. Assumes nothing.
use Rattle.std.specs.Prelude.{Err, Ok}
use mathlib.Core.Path.{◌≡◌, refl, sym, ◌∙◌, ap}
use mathlib.Core.Bool.{◌||◌}
use Prim.Native.Nat.{ℕ, ◌+◌, ◌-◌, ◌*◌, ◌/◌, ◌%◌, ◌≤◌, ◌<◌}
use native.Mathlib.Omega.{arith}
use borrow.Author.Tests.{le-ltb, ltb-false, eqb-true, eqb-false, leb-true}
use lib.Dec.{eqb, ltb}
use Rattle.words.proofs.Cases.{test, choice, neither}
use Rattle.refusals.specs.declared.Refusal.TheVariants.{OutOfTurn}
use Rattle.tie_rules.specs.declared.tie_rule.TieRule.{TieRule}
use Rattle.string_set.specs.Readers.{longest_file}
use Rattle.tie_rules.specs.Ties.{rule_number}
use Rattle.column_file_laws.proofs.Both.{rule_back, number_back}
use Rattle.column_writer.specs.declared.stages.Stage.{Stage}
use Rattle.column_writer.specs.declared.stages.Stage.TheVariants.{AwaitsSettings, AwaitsColumns, AwaitsFinish, Finished}
use Rattle.column_writer.specs.declared.writer.Writer.{Writer}
use Rattle.export_writer.specs.Numbers.{first_writer, most_columns, columns_to_come, stage_codes, stage_code, stage_of, writer_number, writer_of}
use Rattle.export_writer.specs.Laws.{SmallStage, Small}
use Rattle.export_writer.proofs.Coded.{columns_stage, numbered}

-- ---- a rule by its number, and back

rule_small : (t : TieRule) → rule_number t ≤ 1
rule_small t = leb-true (rule_number t) 1 (rule_back t).0

-- ---- a stage

few_columns : (s : Stage) → SmallStage s → columns_to_come s < most_columns
few_columns AwaitsSettings h = omega arith
few_columns (AwaitsColumns g left) h = h.2
few_columns AwaitsFinish h = omega arith
few_columns Finished h = omega arith

code_small : (s : Stage) → SmallStage s → stage_code s < stage_codes
unfolding stage_code
code_small AwaitsSettings h = omega arith
code_small (AwaitsColumns g left) h = omega (arith, rule_small g.tie_rule, h.0, h.1, h.2)
code_small AwaitsFinish h = omega arith
code_small Finished h = omega arith

-- four numbers in one, which is n, are read back
module _ (rule pre post left n : ℕ) (r : rule ≤ 1) (a : pre < 256) (b : post < 256) (e : n ≡ rule + (2 * pre + 512 * post) + 131072 * left) where
  read_rule : n % 2 ≡ rule
  read_rule = omega arith

  read_pre : n / 2 % 256 ≡ pre
  read_pre =
      let half : n / 2 ≡ pre + 256 * (post + 256 * left) = omega arith in
      omega arith

  read_post : n / 512 % 256 ≡ post
  read_post =
      let rest : n / 512 ≡ post + 256 * left = omega arith in
      omega arith

  read_left : n / 131072 ≡ left
  read_left = omega arith

-- and all of a number is in its four
all_in_four : (n : ℕ) → n % 2 + (2 * (n / 2 % 256) + 512 * (n / 512 % 256)) + 131072 * (n / 131072) ≡ n
all_in_four n =
    let a : n / 512 ≡ n / 2 / 256 = omega arith in
    let b : n / 131072 ≡ n / 512 / 256 = omega arith in
    omega arith

stage_back : (s : Stage) → SmallStage s → stage_of (stage_code s) ≡ s
unfolding stage_code stage_of
stage_back AwaitsSettings h = refl
stage_back (AwaitsColumns g left) h =
    let rule = rule_number g.tie_rule in
    let pre = g.error_rate_pre_umi.0 in
    let post = g.error_rate_post_umi.0 in
    let small = rule_small g.tie_rule in
    let n = 3 + rule + (2 * pre + 512 * post) + 131072 * left in
    let e : n - 3 ≡ rule + (2 * pre + 512 * post) + 131072 * left = omega arith in
    sym (columns_stage n (λ z. omega arith) (λ z. omega arith) (λ z. omega arith) _ refl)
    ∙ rw (read_rule rule pre post left (n - 3) small h.0 h.1 e, (rule_back g.tie_rule).1, read_pre rule pre post left (n - 3) small h.0 h.1 e)
    (rw (read_post rule pre post left (n - 3) small h.0 h.1 e, read_left rule pre post left (n - 3) small h.0 h.1 e))
stage_back AwaitsFinish h = refl
stage_back Finished h = refl

-- and a number of a stage, which awaits few columns
code_back : (n : ℕ) → n < stage_codes → (stage_code (stage_of n) ≡ n) × (columns_to_come (stage_of n) < most_columns)
unfolding stage_code stage_of
code_back n h =
    test (eqb n 0) (λ e. rw (eqb-true n 0 e) (refl, omega arith)) (λ a.
    test (eqb n 1) (λ e. rw (eqb-true n 1 e) (refl, omega arith)) (λ b.
    test (eqb n 2) (λ e. rw (eqb-true n 2 e) (refl, omega arith)) (λ c.
    let three : 3 ≤ n = omega (arith, eqb-false n 0 a, eqb-false n 1 b, eqb-false n 2 c) in
    rw (a, b, c, number_back ((n - 3) % 2) (omega arith)) (omega (arith, all_in_four (n - 3)), omega arith))))

-- ---- a writer

-- where it is small
module _ (w : Writer) (h : Small w) where
  number_is : first_writer + stage_code w.stage + stage_codes * w.written ≡ writer_number w
  number_is = numbered w h.0 (few_columns w.stage h.1)

  pub no_refusal : first_writer ≤ writer_number w
  no_refusal = omega (arith, number_is)

  pub read_back : writer_of (writer_number w) ≡ Ok w
  unfolding writer_of
  read_back =
      let n = first_writer + stage_code w.stage + stage_codes * w.written in
      let small = code_small w.stage h.1 in
      let code : (n - first_writer) % stage_codes ≡ stage_code w.stage = omega arith in
      let bytes : (n - first_writer) / stage_codes ≡ w.written = omega arith in
      rw (sym number_is, le-ltb n first_writer (omega arith), code, bytes, le-ltb longest_file w.written h.0, stage_back w.stage h.1)

pub only : (n : ℕ) (w : Writer) → writer_of n ≡ Ok w → writer_number w ≡ n
unfolding writer_of
only n w =
    let v : Writer = record { stage = stage_of ((n - first_writer) % stage_codes); written = (n - first_writer) / stage_codes } in
    choice (λ q. q ≡ Ok w → writer_number w ≡ n) (ltb n first_writer || ltb longest_file ((n - first_writer) / stage_codes)) (Err OutOfTurn) (Ok v)
    (λ t e. absurd (let z : ◌≡◌ {A = ℕ} 0 1 = cc in omega arith))
    (λ t e.
    let f = neither (ltb n first_writer) (ltb longest_file ((n - first_writer) / stage_codes)) t in
    let from = ltb-false n first_writer f.0 in
    let short = ltb-false longest_file ((n - first_writer) / stage_codes) f.1 in
    let back = code_back ((n - first_writer) % stage_codes) (omega arith) in
    let same : w ≡ v = cc in
    let number = numbered v short back.1 in
    ap writer_number same ∙ sym number ∙ omega (arith, back.0))
