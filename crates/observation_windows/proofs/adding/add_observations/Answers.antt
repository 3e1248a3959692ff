-- `add_observations`: the pairs that are left bring the builder to where all bytes bring the first one, and the room that is left is counted. Assumes nothing.
use mathlib.Core.Path.{◌≡◌, sym, ◌∙◌}
use Prim.Native.Nat.{◌-◌}
use native.Mathlib.Omega.{arith}
use borrow.Author.Tests.{not-true, not-false}
use lib.Dec.{eqb}
use lib.ListN.{get_or}
use Rattle.std.proofs.Common.{[], false}
use Rattle.std.specs.Slice.Iter.{chunks_exact_rest}
use Rattle.tie_rules.specs.Lanes.{lanes, no_lane, lane_of_byte}
use Rattle.tie_rules.proofs.Lanes.{in_lane}
use Rattle.base_builder.specs.Builder.{entry_of}
use Rattle.observation_windows.specs.Windows.{window_observed}
use Rattle.observation_windows.proofs.Turns.{few, ignored, stays, room_less, observed}
use Rattle.observation_windows.proofs.adding.add_observations.Goals as goal

pub returns-then-left-eq0 : goal.returns-then-left-eq0
returns-then-left-eq0 c =
    sym (stays c.args.windows.now.rows c.loop-pair.after (chunks_exact_rest c.loop-pair.pair-iterator) c.loop-pair.left c.loop-pair.invariant.1 c.if-left-eq0.true) ∙ c.loop-pair.invariant.2

pub loop-pair-preserved-then-is_base : goal.loop-pair-preserved-then-is_base
unfolding window_observed lanes
loop-pair-preserved-then-is_base c =
    let pair = c.in-Some.pair.now in
    let k = lane_of_byte (get_or pair 0 0) in
    let base = sym c.is_base.ensures ∙ c.if-is_base.true in
    let n : eqb (lane_of_byte (get_or pair 0 0)) no_lane ≡ false = not-true _ base in
    let start = c.lanes_after-start.ensures.base base in
    let lane : 3 - c.lanes_after-start.result ≡ k = omega (arith, start, in_lane (get_or pair 0 0) n) in
    let o : c.observed-after.result ≡ window_observed (get_or c.args.windows.now.rows (entry_of (get_or pair 1 0)) []) k c.loop-pair.after =
    rw (← start, ← lane) (rw c.values.ensures at c.observed-after.ensures) in
    let (size, (rest, two), same) = c.in-Some.ensures.steps in
    let turn = observed c.args.windows.now.rows c.loop-pair.after pair _ (two ∙ c.loop-pair.invariant.0) c.loop-pair.left c.loop-pair.invariant.1 c.if-left-eq0.false n c.observed-after.result o in (
      size ∙ c.loop-pair.invariant.0,
      room_less c.args.windows.now.rows c.loop-pair.after pair (chunks_exact_rest c.next.new.self) (two ∙ c.loop-pair.invariant.0) c.loop-pair.left c.loop-pair.invariant.1 c.if-left-eq0.false n c.observed-after.result o,
      turn ∙ rw (← rest) c.loop-pair.invariant.2,
    )

pub loop-pair-preserved : goal.loop-pair-preserved
loop-pair-preserved c =
    let pair = c.in-Some.pair.now in
    let (size, (rest, two), same) = c.in-Some.ensures.steps in
    let turn = ignored c.args.windows.now.rows c.loop-pair.after pair _ (two ∙ c.loop-pair.invariant.0) (not-false _ (sym c.is_base.ensures ∙ c.if-is_base.false)) in
    (size ∙ c.loop-pair.invariant.0, c.loop-pair.invariant.1, turn ∙ rw (← rest) c.loop-pair.invariant.2)

pub returns : goal.returns
returns c =
    let (size, (less, same), remainder) = c.in-None.ensures.steps in
    sym (few c.args.windows.now.rows c.loop-pair.after (chunks_exact_rest c.loop-pair.pair-iterator) (omega (arith, less, c.loop-pair.invariant.0))) ∙ c.loop-pair.invariant.2
