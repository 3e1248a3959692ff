-- `records`: the reply of the length that is answered. Assumes nothing.
use Rattle.export_listing.proofs.Laws.{reply_is, records_short}
use Rattle.export_listing.proofs.records.Goals as goal

pub reply-requires : goal.reply-requires
reply-requires c = rw c.records.ensures.answer (records_short c.args.file.now c.args.out.now)

pub returns : goal.returns
returns c = record { reply = rw (c.reply.ensures, c.records.ensures.answer, reply_is); lent = c.records.ensures.lent }
