-- The tables of a pair of rates as bytes, as `tables` hands them out.
use Rattle.std.specs.Prelude.{ℕ, List, ◌++◌}
use Rattle.rate_tables.specs.declared.adjusted.AdjustedProbabilityTables.{AdjustedProbabilityTables}
use Rattle.gap_tables.specs.declared.gaps.UnanimousGapTables.{UnanimousGapTables}
use Rattle.rate_tables.specs.Adjusted.{adjusted_tables}
use Rattle.gap_tables.specs.Gaps.{gap_tables}
use Rattle.lent_bytes.specs.Bytes.{joined, number_bytes}
use Rattle.export_reports.specs.Report.{pattern_of}

-- 94 bit patterns of each of the four tables in turn, then the cap: numbers of 8 bytes, the low byte first
abbrev pub bytes_of_tables : AdjustedProbabilityTables → UnanimousGapTables → List ℕ
bytes_of_tables a g = joined pattern_of (a.correct ++ a.error_per_alt ++ g.thresholds ++ g.cerr_min) ++ number_bytes 8 g.cap

-- of the tables of a pair of rates, all 3,016 of them
unfoldable pub table_bytes : ℕ → ℕ → List ℕ
table_bytes pre post = bytes_of_tables (adjusted_tables post) (gap_tables pre)
