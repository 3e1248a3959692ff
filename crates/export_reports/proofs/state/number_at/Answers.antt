-- `number_at`: eight bytes. Assumes nothing.
use Rattle.export_reports.proofs.Numbers.{number_eight}
use Rattle.export_reports.proofs.state.number_at.Goals as goal

pub returns : goal.returns
returns c = rw (c.from_pattern.ensures, c.from_le_bytes.ensures, c.bytes_at.ensures, number_eight)
