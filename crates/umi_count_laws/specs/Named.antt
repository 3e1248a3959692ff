-- What the counts of a column's bases say of its sums.
use Rattle.std.specs.Prelude.{◌≡◌, true, List, ℕ, ◌≤◌, ◌<◌, Float, length}
use Rattle.tie_rules.specs.declared.tie_rule.TieRule.TheVariants.{FgbioCompat}
use Rattle.tie_rules.specs.Ties.{unique_max_index_with}
use Rattle.observation_windows.specs.Windows.{window_of}
use Rattle.umi_column.specs.Sums.{no_sums, summed_all}
use Rattle.umi_count_laws.specs.Counts.{logarithms_apart, Leads}

-- the sums by this window name the lane that was observed more often than each other, in whatever order the bytes stand
abbrev pub Faithful : List Float → Type 0
Faithful window = (column : List ℕ) → length column ≤ 255 → (i : ℕ) → i < 4 → Leads column i → unique_max_index_with (summed_all window column no_sums).likelihoods FgbioCompat ≡ i

-- where the two logarithms of an observation lie apart, their window is such a one
abbrev pub NamedByCounts : Type 0
NamedByCounts = (correct error : Float) → logarithms_apart correct error ≡ true → Faithful (window_of correct error)
