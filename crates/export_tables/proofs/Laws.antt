-- The tables are 3,016 bytes. Assumes nothing.
use Rattle.std.proofs.Common.{◌≡◌, ℕ, length, length-append}
use Rattle.std.specs.Prelude.{Float, to_bits}
use Rattle.std.specs.Float.{binary64}
use Rattle.words.proofs.Listed.{listed_length}
use Rattle.rate_tables.specs.Tables.{levels}
use Rattle.rate_tables.specs.Adjusted.{adjusted_tables}
use Rattle.gap_tables.specs.Gaps.{gap_tables}
use Rattle.lent_bytes.proofs.Joined.{joined_length}
use Rattle.lent_bytes.proofs.Numbers.{bytes_length}
use Rattle.export_reports.specs.Report.{pattern_of}
use Rattle.export_tables.specs.Tables.{table_bytes}

levels_length : (f : ℕ → Float) → length (levels f) ≡ 94
levels_length f = listed_length f 0 94

pub tables_length : (pre post : ℕ) → length (table_bytes pre post) ≡ 3016
unfolding table_bytes adjusted_tables gap_tables
tables_length pre post = simp (length-append, joined_length pattern_of 8 (λ x. bytes_length 8 (to_bits binary64 x)), bytes_length, levels_length)
