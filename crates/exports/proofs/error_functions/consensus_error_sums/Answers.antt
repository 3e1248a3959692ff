-- `consensus_error_sums`: how many bytes were written. Assumes nothing.
use Rattle.export_reports.proofs.Written.{length_or_none}
use Rattle.exports.proofs.error_functions.consensus_error_sums.Goals as goal

pub returns-clause-reply : goal.returns-clause-reply
returns-clause-reply c = rw (c.reply.ensures, c.print.ensures.reply, length_or_none)
