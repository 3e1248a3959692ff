-- What a script writes, item by item and by its arguments. Assumes nothing.
use Rattle.std.proofs.Common.{◌≡◌, ℕ, ◌*◌, ◌<◌, ◌≤◌, true, false, leb, List, [], ◌∷◌, ◌++◌, length, refl, arith, le-leb}
use borrow.Author.Tests.{lt-leb}
use Rattle.std.specs.Prelude.{unwrap_or}
use Rattle.words.proofs.Cases.{test}
use Rattle.lent_bytes.specs.Buffer.{length_written, written_length, written}
use Rattle.rate_tables.specs.declared.adjusted.AdjustedProbabilityTables.{AdjustedProbabilityTables}
use Rattle.gap_tables.specs.declared.gaps.UnanimousGapTables.{UnanimousGapTables}
use Rattle.rate_tables.specs.Adjusted.{adjusted_tables}
use Rattle.gap_tables.specs.Gaps.{gap_tables}
use Rattle.base_builder.specs.declared.builder.ConsensusBaseBuilder.{ConsensusBaseBuilder}
use Rattle.export_scripts.specs.declared.item.Item.{Item}
use Rattle.export_scripts.specs.declared.item.Item.TheVariants.{Add, Reset, SetTieRule, Question}
use Rattle.export_scripts.specs.declared.progress.Progress.{Progress}
use Rattle.export_scripts.specs.Item.{stepped, answered}
use Rattle.export_scripts.specs.Script.{items, is_script, questions, passed}
use Rattle.export_reports.specs.Report.{report_of, said}
use Rattle.export_reports.specs.Runs.{reports, script_start, script_bytes, is_answered}
use Rattle.export_reports.proofs.Lengths.{reports_length}

said_none : (g : UnanimousGapTables) (i : Item) (p : Progress) → ((kind : ℕ) → i ≡ Question kind → ⊥) → said g i p ≡ []
unfolding said
said_none g (Add base qual) p n = refl
said_none g Reset p n = refl
said_none g (SetTieRule rule) p n = refl
said_none g (Question kind) p n = absurd (n kind refl)

module _ (t : AdjustedProbabilityTables) (g : UnanimousGapTables) (p : Progress) {is : List Item} where
  -- a question's report, and then the others, with nothing changed
  pub question_next : {kind : ℕ} {others : List Item} → is ≡ Question kind ∷ others → reports t g is p ≡ report_of g p ++ reports t g others p
  unfolding reports said passed stepped answered
  question_next e = rw e

  -- an event, which says nothing
  pub event_next : {i : Item} {others : List Item} → ((kind : ℕ) → i ≡ Question kind → ⊥) → is ≡ i ∷ others → reports t g is p ≡ reports t g others (passed t i p)
  unfolding reports
  event_next {i} {others} n e = rw (e, said_none g i p n)

  pub reports_none : is ≡ [] → reports t g is p ≡ []
  unfolding reports
  reports_none e = rw e

module _ (pre post rule : ℕ) (s : List ℕ) (b : ConsensusBaseBuilder) where
  pub bad_rule : 1 < rule → script_bytes pre post rule s b ≡ []
  unfolding script_bytes
  bad_rule h = rw (lt-leb rule 1 h)

  pub bad_script : rule ≤ 1 → is_script 3 s ≡ false → script_bytes pre post rule s b ≡ []
  unfolding script_bytes
  bad_script h e = rw (le-leb rule 1 h, e)

  pub good_script : rule ≤ 1 → is_script 3 s ≡ true → script_bytes pre post rule s b ≡ reports (adjusted_tables post) (gap_tables pre) (items s) (script_start rule b)
  unfolding script_bytes
  good_script h e = rw (le-leb rule 1 h, e)

  -- 91 bytes for each question
  pub script_size : rule ≤ 1 → is_script 3 s ≡ true → length (script_bytes pre post rule s b) ≡ 91 * questions (items s)
  script_size h e = rw (good_script h e) (reports_length (adjusted_tables post) (gap_tables pre) (items s) (script_start rule b))

-- ---- whether there is an answer

module _ (rule : ℕ) (s bs out : List ℕ) where
  pub rule_unanswered : 1 < rule → is_answered rule s bs out ≡ false
  unfolding is_answered
  rule_unanswered h = rw (lt-leb rule 1 h)

  module _ (h : rule ≤ 1) where
    pub script_unanswered : is_script 3 s ≡ false → is_answered rule s bs out ≡ false
    unfolding is_answered
    script_unanswered e = rw (le-leb rule 1 h, e)

    module _ (e : is_script 3 s ≡ true) where
      pub short_unanswered : length out < length bs → is_answered rule s bs out ≡ false
      unfolding is_answered
      short_unanswered l = rw (le-leb rule 1 h, e, lt-leb (length bs) (length out) l)

      pub well_answered : length bs ≤ length out → is_answered rule s bs out ≡ true
      unfolding is_answered
      well_answered l = rw (le-leb rule 1 h, e, le-leb (length bs) (length out) l)

-- ---- what a buffer then holds

module _ (bs out : List ℕ) where
  pub nothing_said : bs ≡ [] → (0 ≡ length_written bs out) × (out ≡ written bs out)
  unfolding length_written written
  nothing_said e =
      let fits : 0 ≤ length out = omega arith in
      (rw (e, le-leb 0 (length out) fits), rw (e, le-leb 0 (length out) fits))

  pub too_short : length out < length bs → (0 ≡ length_written bs out) × (out ≡ written bs out)
  unfolding length_written written
  too_short h = (rw (lt-leb (length bs) (length out) h), rw (lt-leb (length bs) (length out) h))

  pub all_said : length bs ≤ length out → length bs ≡ length_written bs out
  unfolding length_written
  all_said h = rw (le-leb (length bs) (length out) h)

  -- the length as an answer, 0 where there is none
  pub length_or_none : unwrap_or (written_length bs out) 0 ≡ length_written bs out
  unfolding written_length length_written
  length_or_none = test (leb (length bs) (length out)) (λ t. rw t) (λ f. rw f)
