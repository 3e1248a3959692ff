-- What holds of the table and of every sum. The exact probability is no whole number and mostly no fraction: it is spoken of by the fractions on either side.
use Rattle.std.specs.Prelude.{◌≡◌, ℕ, ◌+◌, ◌*◌, ◌^◌, ◌<◌, ◌≤◌, T, List, length, slice_index, sum_by}
use Rattle.column_file.specs.Format.{Observation}
use Rattle.expected_errors.specs.Table.{Entry, error_table, error_of, whole_table}
use Rattle.expected_errors.specs.Sums.{errors_with, error_sum}

-- a/b ≤ 10^(−q/10)·2^48
abbrev pub AtMost : ℕ → ℕ → ℕ → Type 0
AtMost q a b = a ^ 10 * 10 ^ q ≤ 2 ^ 480 * b ^ 10

-- 10^(−q/10)·2^48 ≤ a/b
abbrev pub AtLeast : ℕ → ℕ → ℕ → Type 0
AtLeast q a b = 2 ^ 480 * b ^ 10 ≤ a ^ 10 * 10 ^ q

-- t ≤ 10^(−q/10)·2^48 < t + 1, as every fraction a/b sees it
pub record Brackets (q t : ℕ) : Type 0 where
  -- one at most the probability is below t + 1
  pub below : (a b : ℕ) → 0 < b → AtMost q a b → a < (t + 1) * b
  -- one at least the probability is not below t
  pub above : (a b : ℕ) → 0 < b → AtLeast q a b → t * b ≤ a

pub record TableLaws : Type 0 where
  -- one number for each quality byte
  pub bytes : length error_table ≡ 256
  -- the rule of all of them is one test, which passes
  pub computed : T whole_table
  -- so each obeys it; past the table the number is 0, and does so too
  pub rule : (q : ℕ) → Entry q (error_of q)
  -- the rule decides the number
  pub only : (q t u : ℕ) → Entry q t → Entry q u → t ≡ u
  -- what obeys the rule brackets the exact probability
  pub brackets : (q t : ℕ) → Entry q t → Brackets q t

-- the greatest number of qualities in one column: its count has two bytes
abbrev pub most_qualities : ℕ
most_qualities = 65535

-- by a table whose numbers are at most 2^48, the sum and the sum plus the number of qualities are below 2^64
abbrev pub ExactWith : List ℕ → Type 0
ExactWith table = ((q : ℕ) → slice_index table q ≤ 2 ^ 48) → (c : List Observation) → length c ≤ most_qualities → errors_with table c + length c < 2 ^ 64

pub record SumLaws (c : List Observation) : Type 0 where
  -- both are exact in 64 bits
  pub exact : length c ≤ most_qualities → error_sum c + length c < 2 ^ 64
  -- the sum is the total of the lower bounds
  pub lower : error_sum c ≡ sum_by (λ o. error_of o.quality) c
  -- the sum plus the number of qualities is the total of the upper bounds
  pub upper : error_sum c + length c ≡ sum_by (λ o. error_of o.quality + 1) c
  -- fractions (a q)/b, each at most the probability of q, add up to no more than the upper total
  pub below : (a : ℕ → ℕ) (b : ℕ) → 0 < b → ((q : ℕ) → AtMost q (a q) b) → sum_by (λ o. a o.quality) c ≤ (error_sum c + length c) * b
  -- fractions (a q)/b, each at least the probability of q, add up to no less than the lower total
  pub above : (a : ℕ → ℕ) (b : ℕ) → 0 < b → ((q : ℕ) → AtLeast q (a q) b) → error_sum c * b ≤ sum_by (λ o. a o.quality) c

-- one quality more could take 65 bits: 65,536 of quality 0
abbrev pub NoMoreFit : Type 0
NoMoreFit = (most_qualities + 1) * error_of 0 ≡ 2 ^ 64
