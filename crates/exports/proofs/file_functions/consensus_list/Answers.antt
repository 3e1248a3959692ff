-- `consensus_list`: how many bytes were written. Assumes nothing.
use Rattle.export_reports.proofs.Written.{length_or_none}
use Rattle.exports.proofs.file_functions.consensus_list.Goals as goal

pub returns-clause-reply : goal.returns-clause-reply
returns-clause-reply c = rw (c.reply.ensures, c.print.ensures.reply, length_or_none)
