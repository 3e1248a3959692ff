-- Sums of 64 bits, and what one item or one column adds to them. Assumes nothing.
use Rattle.std.proofs.Common.{◌≡◌, ℕ, ◌+◌, ◌*◌, ◌%◌, ◌^◌, ◌<◌, List, [], ◌∷◌, Some, Ok, Err, refl, ap, ◌∙◌, zero-add, arith}
use Rattle.std.specs.Prelude.{Option, is_some}
use Rattle.std.specs.Result.{result_ok, is_ok}
use Rattle.refusals.specs.Result.{Result, map_ok}
use Rattle.std.proofs.lemmas.List.Sums.{sum_by-cons}
use Rattle.rate_tables.specs.declared.adjusted.AdjustedProbabilityTables.{AdjustedProbabilityTables}
use Rattle.gap_tables.specs.declared.gaps.UnanimousGapTables.{UnanimousGapTables}
use Rattle.base_builder.specs.declared.builder.ConsensusBaseBuilder.{ConsensusBaseBuilder}
use Rattle.column_file.specs.declared.settings.Settings.{Settings}
use Rattle.column_file.specs.declared.file.Places.{Places}
use Rattle.column_file.specs.Format.{Observation}
use Rattle.column_file.specs.Reading.{File, read_file}
use Rattle.column_file.specs.Places.{columns_at, places_of}
use Rattle.column_file.proofs.FileLayout.{layout}
use Rattle.column_calls.specs.declared.columns.ColumnCall.{ColumnCall}
use Rattle.column_calls.specs.Columns.{called_column}
use Rattle.export_scripts.specs.declared.item.Item.{Item}
use Rattle.export_scripts.specs.declared.item.Item.TheVariants.{Add, Reset, SetTieRule, Question}
use Rattle.export_scripts.specs.Item.{stepped}
use Rattle.export_timing.specs.Amounts.{amount_of}
use Rattle.export_timing.specs.Columns.{column_amounts, amounts_with, calls_in, calls_of}
use Rattle.export_timing.specs.Times.{amount_at, amounts}

-- one round more
pub round_more : (k more sum : ℕ) → sum ≡ k * more % 2 ^ 64 → (sum + more) % 2 ^ 64 ≡ (k + 1) * more % 2 ^ 64
round_more k more sum e = omega (arith, e)

-- what is left adds to a sum as much as what comes next and what follows it
pub sum_more : (total one rest : ℕ) → ((total + one) % 2 ^ 64 + rest) % 2 ^ 64 ≡ (total + (one + rest)) % 2 ^ 64
sum_more total one rest = omega arith

-- nothing is left
pub sum_all : (total rest : ℕ) → total < 2 ^ 64 → rest ≡ 0 → total ≡ (total + rest) % 2 ^ 64
sum_all total rest h e = omega arith

no_amount : (g : UnanimousGapTables) (i : Item) (b : ConsensusBaseBuilder) → ((kind : ℕ) → i ≡ Question kind → ⊥) → amount_at g i b ≡ 0
unfolding amount_at
no_amount g (Add base qual) b n = refl
no_amount g Reset b n = refl
no_amount g (SetTieRule rule) b n = refl
no_amount g (Question kind) b n = absurd (n kind refl)

module _ (t : AdjustedProbabilityTables) (g : UnanimousGapTables) (b : ConsensusBaseBuilder) {is : List Item} where
  amounts_next : {i : Item} {others : List Item} → is ≡ i ∷ others → amounts t g is b ≡ amount_at g i b + amounts t g others (stepped t i b)
  unfolding amounts
  amounts_next e = rw e

  -- a question, and then the others with the same builder
  pub question_next : {kind : ℕ} {others : List Item} → is ≡ Question kind ∷ others → amounts t g is b ≡ amount_at g (Question kind) b + amounts t g others b
  unfolding amounts stepped
  question_next e = rw e

  -- an event, which adds nothing
  pub event_next : {i : Item} {others : List Item} → ((kind : ℕ) → i ≡ Question kind → ⊥) → is ≡ i ∷ others → amounts t g is b ≡ amounts t g others (stepped t i b)
  event_next {i} {others} n e = amounts_next e ∙ ap (λ (m : ℕ). m + amounts t g others (stepped t i b)) (no_amount g i b n) ∙ zero-add _

  pub amounts_none : is ≡ [] → amounts t g is b ≡ 0
  unfolding amounts
  amounts_none e = rw e

module _ (called : List Observation → ColumnCall) {cs : List (List Observation)} where
  pub columns_next : {c : List Observation} {others : List (List Observation)} → cs ≡ c ∷ others → amounts_with called cs ≡ amount_of (called c).call + amounts_with called others
  unfolding amounts_with
  columns_next {c} {others} e = rw e (sum_by-cons (λ c. amount_of (called c).call) c others)

  pub columns_none : cs ≡ [] → amounts_with called cs ≡ 0
  unfolding amounts_with
  columns_none e = rw e

-- by what a file's settings say
amounts_same : (g : Settings) (cs : List (List Observation)) → amounts_with (called_column g) cs ≡ column_amounts g cs
unfolding amounts_with column_amounts called_column
amounts_same g cs = refl

-- ---- a file, by what `read` says of it

-- there are places where it is accepted
pub read_said : (q : Result File) (p : Option Places) → result_ok (map_ok places_of q) ≡ p → is_some p ≡ is_ok q
read_said (Err r) p h = rw (← h)
read_said (Ok f) p h = rw (← h)

by_reading : (s : List ℕ) (times : ℕ) (q : Result File) → read_file s ≡ q → (p : Places) → result_ok (map_ok places_of q) ≡ Some p
    → calls_in q times ≡ times * column_amounts p.settings (columns_at s p.columns p.count) % 2 ^ 64
by_reading s times (Err r) e p h = absurd cc
by_reading s times (Ok f) e p h =
    let same : p ≡ places_of f = cc in
    rw (same, (layout s f e).columns)

pub calls_accepted : (s : List ℕ) (times : ℕ) (p : Places) → result_ok (map_ok places_of (read_file s)) ≡ Some p
    → calls_of s times ≡ times * amounts_with (called_column p.settings) (columns_at s p.columns p.count) % 2 ^ 64
unfolding calls_of
calls_accepted s times p h = rw (amounts_same p.settings (columns_at s p.columns p.count)) (by_reading s times (read_file s) refl p h)
