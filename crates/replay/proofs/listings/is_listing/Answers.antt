-- `is_listing`: as many bytes are compared as were printed. Assumes nothing.
use Rattle.std.proofs.Common.{arith, length-take}
use Rattle.column_listing.specs.Listing.{listing_of}
use Rattle.replay.specs.Listings.{listing_room}
use Rattle.export_reports.proofs.Written.{length_or_none}
use Rattle.replay.proofs.Reports.{length_fits}
use Rattle.replay.proofs.listings.is_listing.Goals as goal

pub slice_bounds-ours-end : goal.slice_bounds-ours-end
slice_bounds-ours-end c =
    let printed = rw c.print.ensures.reply at c.unwrap_or-n.ensures in
    omega (arith, printed, length_or_none (listing_of c.args.file.now) listing_room, length_fits (listing_of c.args.file.now) listing_room)

pub slice_bounds-eq-end : goal.slice_bounds-eq-end
slice_bounds-eq-end c =
    let printed = rw c.print.ensures.reply at c.unwrap_or-n.ensures in
    simp length-take (omega (arith, printed, length_or_none (listing_of c.args.file.now) listing_room, length_fits (listing_of c.args.file.now) listing_room))

pub returns : goal.returns
returns c =
    let printed = rw (c.print.ensures.reply, length_or_none) at c.unwrap_or-n.ensures in
    rw (c.eq.ensures, printed, c.print.ensures.lent)
