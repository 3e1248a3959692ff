-- A stage and a writer by their numbers, by what the tests of a number find. Assumes nothing.
use mathlib.Core.Path.{◌≡◌}
use Prim.Native.Nat.{ℕ, ◌+◌, ◌-◌, ◌*◌, ◌/◌, ◌%◌, ◌≤◌, ◌<◌}
use borrow.Author.Tests.{lt-ltb, le-ltb, le-leb, lt-leb, ne_eqb}
use Rattle.words.proofs.Cases.{and-false}
use Rattle.tie_rules.specs.declared.tie_rule.TieRule.{TieRule}
use Rattle.tie_rules.specs.Ties.{rule_of}
use Rattle.string_set.specs.Readers.{longest_file}
use Rattle.column_writer.specs.declared.stages.Stage.TheVariants.{AwaitsColumns}
use Rattle.column_writer.specs.declared.writer.Writer.{Writer}
use Rattle.export_writer.specs.Numbers.{first_writer, most_columns, columns_to_come, stage_codes, stage_code, stage_of, writer_number}

-- the stage of a number that awaits columns
pub columns_stage : (n : ℕ) → (n ≡ 0 → ⊥) → (n ≡ 1 → ⊥) → (n ≡ 2 → ⊥) → (rule : TieRule) → rule ≡ rule_of ((n - 3) % 2)
    → AwaitsColumns (record { error_rate_pre_umi = record { 0 = (n - 3) / 2 % 256 }; error_rate_post_umi = record { 0 = (n - 3) / 512 % 256 }; tie_rule = rule }) ((n - 3) / 131072)
    ≡ stage_of n
unfolding stage_of
columns_stage n a b c rule e = rw (ne_eqb n 0 a, ne_eqb n 1 b, ne_eqb n 2 c, e)

-- ---- the number of a writer

module _ (w : Writer) where
  pub too_many_bytes : longest_file < w.written → 13 ≡ writer_number w
  unfolding writer_number
  too_many_bytes h = rw (lt-leb w.written longest_file h)

  pub too_many_columns : most_columns ≤ columns_to_come w.stage → 13 ≡ writer_number w
  unfolding writer_number
  too_many_columns h = rw (le-ltb (columns_to_come w.stage) most_columns h, and-false)

  pub numbered : w.written ≤ longest_file → columns_to_come w.stage < most_columns → first_writer + stage_code w.stage + stage_codes * w.written ≡ writer_number w
  unfolding writer_number
  numbered h k = rw (le-leb w.written longest_file h, lt-ltb (columns_to_come w.stage) most_columns k)
