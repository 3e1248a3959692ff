-- `print_stream`: its first room is larger than a file may be, and its second holds every listing. Assumes nothing.
use mathlib.Core.Path.{◌∙◌}
use Prim.Native.Nat.{◌≤◌, ◌<◌}
use native.Mathlib.Omega.{arith}
use lib.ListN.{length, take}
use Rattle.string_set.specs.Readers.{longest_file}
use Rattle.streams.proofs.Streams.{same_said, fits_onto, fits_length}
use Rattle.column_listing.specs.Listing.{listing_of}
use Rattle.column_listing_laws.proofs.Longest.{fits}
use Rattle.stream_listing.proofs.Streams.{long_alike}
use Rattle.stream_listing.proofs.print_stream.Goals as goal

pub returns : goal.returns
returns c =
    let room = c.args.room.now in
    let text = c.args.text.now in
    let t = listing_of (take c.args.read room) in
    let long = fits (take c.args.read room) in
    let more : longest_file < length room = omega arith in
    let inside : length t ≤ length text = omega (arith, long.most) in
    let said = rw c.front.ensures at c.print.ensures in
    let reply = c.unwrap_or.ensures ∙ rw said.reply (fits_length t text inside) in
    record {
      reply = reply;
      lent = said.lent ∙ fits_onto t text inside;
      whole = λ stream h. same_said listing_of longest_file long_alike stream c.args.read room more h;
      some = omega (arith, long.some, reply);
    }
