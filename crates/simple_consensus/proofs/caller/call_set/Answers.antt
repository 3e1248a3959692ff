use Rattle.std.proofs.Common.{◌≡◌, ◌<◌, length, take, replicate, refl, ◌∙◌, arith}
use Rattle.std.proofs.lemmas.Result.{err_from_is_err_and}
use lib.Seq.{length-take-le}
use Rattle.umi_groups.proofs.Room.{room_few}
use Rattle.simple_consensus.specs.Consensus.{umis_of}
use Rattle.simple_consensus.specs.Places.{strings_at}
use Rattle.simple_consensus.proofs.Groups.{strings_count, read_refused, read_strings}
use Rattle.simple_consensus.proofs.Replies.{call_in_refused, call_in_none, call_in}
use Rattle.simple_consensus.proofs.caller.call_set.Goals as goal

pub returns-in_err-count : goal.returns-in_err-count
returns-in_err-count c =
    let refused = call_in_refused c.args.set.now c.args.out.now c.args.caller _ (read_refused c.args.set.now _ (rw c.in_err-count.was at c.read_places.ensures.count)) in
    let reply = err_from_is_err_and c.from_residual.result c.from_residual.ensures.1 in
    record { group = rw (reply.1, reply.2, refused) refl; lent = rw refused refl; few = rw refused (omega arith) }

pub returns-then-count-eq0 : goal.returns-then-count-eq0
returns-then-count-eq0 c =
    let n = c.in_ok-count.count in
    let read = read_strings c.args.set.now c.read_places.new.places n (replicate 255 0) c.in_ok-count.ensures.few c.in_ok-count.ensures.count c.read_places.ensures.lent in
    let places = take n c.read_places.new.places in
    let size : length (strings_at 0 c.args.set.now places) ≡ n = strings_count 0 c.args.set.now places read.2 ∙ length-take-le n c.read_places.new.places read.1 in
    let none = call_in_none c.args.set.now c.args.out.now c.args.caller _ read.0 (size ∙ c.if-count-eq0.true) in
    record { group = rw none refl; lent = rw none refl; few = rw none (omega arith) }

pub alike_consensus-requires : goal.alike_consensus-requires
alike_consensus-requires c =
    (read_strings c.args.set.now c.read_places.new.places c.in_ok-count.count (replicate 255 0) c.in_ok-count.ensures.few c.in_ok-count.ensures.count c.read_places.ensures.lent).2

pub returns : goal.returns
returns c =
    let n = c.in_ok-count.count in
    let read = read_strings c.args.set.now c.read_places.new.places n (replicate 255 0) c.in_ok-count.ensures.few c.in_ok-count.ensures.count c.read_places.ensures.lent in
    let places = take n c.read_places.new.places in
    let size : length (strings_at 0 c.args.set.now places) ≡ n = strings_count 0 c.args.set.now places read.2 ∙ length-take-le n c.read_places.new.places read.1 in
    let some : 0 < n = omega (arith, c.if-count-eq0.false) in
    let same = call_in c.args.set.now c.args.out.now c.args.caller _ read.0 (rw size some) in
    let told = c.alike_consensus.ensures in
    record { group = rw same told.group; lent = rw same told.lent; few = rw same (room_few c.args.out.now (umis_of c.args.caller (strings_at 0 c.args.set.now places)) told.few) }
