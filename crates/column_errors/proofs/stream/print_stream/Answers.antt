-- `print_stream`: its first room is larger than a file may be, and its second holds every text. Assumes nothing.
use mathlib.Core.Path.{◌∙◌}
use Prim.Native.Nat.{◌≤◌, ◌<◌}
use native.Mathlib.Omega.{arith}
use lib.ListN.{length, take}
use Rattle.string_set.specs.Readers.{longest_file}
use Rattle.streams.proofs.Streams.{same_said, fits_onto, fits_length}
use Rattle.column_errors.specs.ErrorSums.{error_sums_of}
use Rattle.column_errors.proofs.Files.{fits, long_alike}
use Rattle.column_errors.proofs.stream.print_stream.Goals as goal

pub returns : goal.returns
returns c =
    let room = c.args.room.now in
    let text = c.args.text.now in
    let t = error_sums_of (take c.args.read room) in
    let more : longest_file < length room = omega arith in
    let inside : length t ≤ length text = omega (arith, fits (take c.args.read room)) in
    let said = rw c.front.ensures at c.print.ensures in
    record {
      reply = c.unwrap_or.ensures ∙ rw said.reply (fits_length t text inside);
      lent = said.lent ∙ fits_onto t text inside;
      whole = λ stream h. same_said error_sums_of longest_file long_alike stream c.args.read room more h;
    }
