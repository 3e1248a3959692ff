-- `print`: by what is written of the file. Assumes nothing.
use Rattle.judged_file.proofs.Judged.{said_refused}
use Rattle.column_listing.specs.Answers.{listed_in}
use Rattle.column_listing.specs.Listing.{listing_of}
use Rattle.column_listing.proofs.Texts.{print_reply, print_buffer}
use Rattle.column_listing.proofs.listing.print.Goals as goal

pub returns-in-Ok : goal.returns-in-Ok
returns-in-Ok c = record {
  reply = print_reply _ _ c.write.new.out c.write.result c.write.ensures.reply c.in-Ok.n c.in-Ok.is;
  lent = print_buffer _ _ c.write.new.out c.write.result c.write.ensures.reply c.in-Ok.n c.in-Ok.is c.write.ensures.lent;
}

pub returns-in-Err : goal.returns-in-Err
unfolding listed_in listing_of
returns-in-Err c =
    let e = said_refused _ _ c.write.result c.write.ensures.reply c.in-Err.refusal c.in-Err.is in
    let same = rw e at c.write.ensures.lent in
    record { reply = rw e (rw same at c.print_refusal.ensures.reply); lent = rw e (rw same at c.print_refusal.ensures.lent) }
