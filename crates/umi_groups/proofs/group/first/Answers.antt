use Rattle.std.proofs.Common.{◌≡◌, ◌+◌, ◌<◌, length, take, drop, refl, sym, ◌∙◌}
use borrow.Author.Tests.{leb-true, leb-false}
use Rattle.words.specs.Lists.{byte_at}
use Rattle.lent_bytes.proofs.Buffer.{short_written}
use Rattle.umi_groups.specs.Found.{found_by}
use Rattle.umi_groups.proofs.Groups.{one_place, first_length, first_found_lem, first_cut_off}
use Rattle.umi_groups.proofs.Room.{room_short, room_enough}
use Rattle.umi_groups.proofs.group.first.Goals as goal

pub returns-in_default : goal.returns-in_default
returns-in_default c =
    let a = c.args in
    let cut = first_cut_off a.builder a.had_errors a.width a.strings.now.set.now a.strings.now.places.now (sym c.in_default.ensures.fit) in
    record { group = rw cut refl; lent = rw cut refl }

pub returns-then-not-write_front : goal.returns-then-not-write_front
returns-then-not-write_front c =
    let a = c.args in
    let s = a.strings.now.set.now in
    let ps = a.strings.now.places.now in
    let same = c.in-Some.ensures.same in
    let text = take a.width (drop (byte_at ps 0 + 1) s) in
    let row : c.first.result.now ≡ text = rw (same.0, same.1, same.2, (one_place a.width s ps c.requires).1) at c.first.ensures in
    let short : length a.out.now < length text = leb-false _ _ (sym (rw row at c.write_front.ensures.reply) ∙ c.if-not-write_front.true) in
    let found = first_found_lem a.builder a.had_errors a.width s ps (sym c.in-Some.ensures.fit) in
    let refused = room_short a.out.now (found_by text a.had_errors a.builder) short in
    record { group = rw (found, refused) refl; lent = rw (found, refused) ((rw row at c.write_front.ensures.lent) ∙ sym (short_written text a.out.now short)) }

pub returns : goal.returns
returns c =
    let a = c.args in
    let s = a.strings.now.set.now in
    let ps = a.strings.now.places.now in
    let same = c.in-Some.ensures.same in
    let text = take a.width (drop (byte_at ps 0 + 1) s) in
    let row : c.first.result.now ≡ text = rw (same.0, same.1, same.2, (one_place a.width s ps c.requires).1) at c.first.ensures in
    let size : length text ≡ a.width = first_length a.width s ps c.requires (rw (same.0, same.1, same.2) at c.in-Some.family.fit) in
    let found = first_found_lem a.builder a.had_errors a.width s ps (sym c.in-Some.ensures.fit) in
    let room = room_enough a.out.now (found_by text a.had_errors a.builder) (leb-true _ _ (sym (rw row at c.write_front.ensures.reply) ∙ c.if-not-write_front.false)) in
    record { group = rw (found, room, size) refl; lent = rw (found, room) (rw row at c.write_front.ensures.lent) }
