-- What an observation adds to a lane's logarithm at each quality, for a post-UMI rate.
use Rattle.std.specs.Prelude.{ℕ, min, List, get_or, Float}
use Rattle.std.specs.Float.{nan}
use Rattle.float.specs.Ops.{◌⊖◌, three}
use Rattle.elementary.specs.Ln.{ln_of}
use Rattle.phred.specs.Phred.{phred_to_ln_error_prob, ln_error_prob_two_trials, ln_not}
use Rattle.rate_tables.specs.declared.adjusted.AdjustedEntry.{AdjustedEntry}
use Rattle.rate_tables.specs.declared.adjusted.AdjustedProbabilityTables.{AdjustedProbabilityTables}
use Rattle.rate_tables.specs.Tables.{levels}

-- the logarithm of an error of the sequencer at quality q or after the UMI at the rate
unfoldable pub adjusted_error : ℕ → ℕ → Float
adjusted_error post q = ln_error_prob_two_trials (phred_to_ln_error_prob post) (phred_to_ln_error_prob q)

-- of no error
unfoldable pub correct_at : ℕ → ℕ → Float
correct_at post q = ln_not (adjusted_error post q)

-- of an error to one of the three other bases: a third
unfoldable pub error_per_alt_at : ℕ → ℕ → Float
error_per_alt_at post q = adjusted_error post q ⊖ ln_of three

-- the tables by their parts
abbrev pub adjusted_of : List Float → List Float → AdjustedProbabilityTables
adjusted_of correct error = record { correct = correct; error_per_alt = error }

-- both tables of a rate
unfoldable pub adjusted_tables : ℕ → AdjustedProbabilityTables
adjusted_tables post = record { correct = levels (correct_at post); error_per_alt = levels (error_per_alt_at post) }

-- the entries of one quality: qualities above 93 use entry 93
abbrev pub entry_at : AdjustedProbabilityTables → ℕ → AdjustedEntry
entry_at t q = record { correct = get_or t.correct (min q 93) nan; error_per_alt = get_or t.error_per_alt (min q 93) nan }
