use Rattle.std.proofs.Common.{◌≡◌, length, false, [], refl, arith}
use Rattle.std.proofs.lemmas.Bool.Decides.{nat_tests}
use Rattle.umi_groups.specs.Found.{found_by}
use Rattle.umi_groups.proofs.Room.{room_enough}
use Rattle.umi_groups.proofs.Groups.{none_written, group_none, group_family, group_first, family_few, first_few}
use Rattle.umi_groups.proofs.group.consensus_group.Goals as goal

pub returns-then-is_empty : goal.returns-then-is_empty
returns-then-is_empty c =
    let a = c.args in
    let s = a.strings.now in
    let empty : length s.places.now ≡ 0 = grind (arith, nat_tests) in
    let none = group_none a.post.0 a.q.0 a.builder s.trim s.set.now s.places.now empty in
    let room = room_enough a.out.now (found_by [] false a.builder) (omega arith) in
    record { group = rw (none, room) refl; lent = rw (none, room) (none_written a.out.now); few = rw none (omega arith) }

pub returns-then-strings-alike : goal.returns-then-strings-alike
returns-then-strings-alike c =
    let a = c.args in
    let s = a.strings.now in
    let family = group_family a.post.0 a.q.0 a.builder s.trim s.set.now s.places.now (grind (arith, nat_tests)) (rw c.are_alike-alike.ensures at c.if-strings-alike.true) in
    let width = c.width-width.ensures.width in
    record {
      group = rw (family, ← width) c.family.ensures.group;
      lent = rw (family, ← width) c.family.ensures.lent;
      few = rw (family, ← width) (family_few a.builder c.width-width.result s.set.now s.places.now c.width-width.ensures.few _);
    }

pub returns : goal.returns
returns c =
    let a = c.args in
    let s = a.strings.now in
    let first = group_first a.post.0 a.q.0 a.builder s.trim s.set.now s.places.now (grind (arith, nat_tests)) (rw c.are_alike-alike.ensures at c.if-strings-alike.false) in
    let width = c.width-width.ensures.width in
    record {
      group = rw (first, ← width, ← c.are_alike-alike.ensures) c.first.ensures.group;
      lent = rw (first, ← width, ← c.are_alike-alike.ensures) c.first.ensures.lent;
      few = rw (first, ← width, ← c.are_alike-alike.ensures) (first_few a.builder c.width-width.result s.set.now s.places.now c.width-width.ensures.few _);
    }
