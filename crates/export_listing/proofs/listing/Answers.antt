-- `listing`: the reply of the length that is answered. Assumes nothing.
use Rattle.export_listing.proofs.Laws.{reply_is, listing_short}
use Rattle.export_listing.proofs.listing.Goals as goal

pub reply-requires : goal.reply-requires
reply-requires c = rw c.list.ensures.answer (listing_short c.args.file.now c.args.out.now)

pub returns : goal.returns
returns c = record { reply = rw (c.reply.ensures, c.list.ensures.answer, reply_is); lent = c.list.ensures.lent }
