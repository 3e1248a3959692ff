-- `read_places`: with the places of the strings still to come, those of the strings are as they are to be, at each turn. Assumes nothing.
use mathlib.Core.Path.{◌≡◌}
use Prim.Native.Nat.{◌+◌}
use native.Mathlib.Omega.{arith}
use lib.ListN.{length-set}
use lib.Seq.{length-take-le}
use Rattle.words.specs.Lists.{byte_at}
use Rattle.string_set.proofs.Placed.{to_place_all, to_place_inside, to_place_more}
use Rattle.string_set.proofs.read_places.Goals as goal

pub loop-place-init : goal.loop-place-init
loop-place-init c =
    let size = length-take-le c.in_ok-count.count _ (omega (arith, c.in_ok-count.ensures.few)) in
    (size, to_place_all c.args.set.now _ _ c.in_ok-count.ensures.count size)

pub bounds-set-at : goal.bounds-set-at
bounds-set-at c =
    let inside = to_place_inside _ _ c.loop-place.place-items _ c.loop-place.place-index c.loop-place.at c.loop-place.invariant.1 (omega arith) in
    omega (arith, inside)

pub overflow_add-at-in-loop-place : goal.overflow_add-at-in-loop-place
overflow_add-at-in-loop-place c =
    let inside = to_place_inside _ _ c.loop-place.place-items _ c.loop-place.place-index c.loop-place.at c.loop-place.invariant.1 (omega arith) in
    omega (arith, inside)

pub loop-place-preserved : goal.loop-place-preserved
loop-place-preserved c =
    let at = c.loop-place.at in
    let end : at + (1 + c.from.result) ≡ at + 1 + byte_at c.args.set.now at = omega arith in
    (simp length-set c.loop-place.invariant.0, rw end (to_place_more _ _ c.loop-place.place-items _ c.loop-place.place-index at c.loop-place.invariant.1 (omega arith)))
