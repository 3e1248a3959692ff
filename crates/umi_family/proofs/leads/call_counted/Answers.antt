use Rattle.std.proofs.Common.{◌+◌, ◌≤◌, length, take, drop, arith}
use Rattle.std.proofs.lemmas.List.{length_push}
use Rattle.std.proofs.lemmas.Iterator.Consumers.{YieldsList-from_first, YieldsList-turn, YieldsList-end}
use Rattle.umi_rows.specs.Rows.{rows_at}
use Rattle.umi_rows.proofs.RowLoops.{row_here, given_length}
use Rattle.umi_family.specs.Counts.{lane_counts}
use Rattle.umi_family.proofs.CountLoops.{done_none, done_room, done_more, done_all}
use Rattle.umi_family.proofs.leads.call_counted.Goals as goal

pub loop-row-init : goal.loop-row-init
loop-row-init c = λ i h.
    let f = c.args.family.now in
    rw (c.none-counts.ensures i h) (done_none i f.width f.set.now f.places.now c.requires.short)

pub count_row-requires : goal.count_row-requires
count_row-requires c =
    let f = c.args.family.now in
    let turn = YieldsList-turn (YieldsList-from_first (λ row. row.now) (λ rest. rest) (rows_at f.width f.set.now f.places.now) cc) c.loop-row.yielded _ c.loop-row.yielded_by _ _ c.in-Some.row c.in-Some.is c.next.ensures.steps in
    let here = row_here f.width f.set.now f.places.now _ _ f.fit turn in
    λ i h. rw here.2 (done_room i f.width f.set.now f.places.now _ (lane_counts c.loop-row.counts i) (c.loop-row.invariant i h) c.requires.short (omega (arith, here.0, f.fit.few)))

pub loop-row-preserved : goal.loop-row-preserved
loop-row-preserved c =
    let f = c.args.family.now in
    let turn = YieldsList-turn (YieldsList-from_first (λ row. row.now) (λ rest. rest) (rows_at f.width f.set.now f.places.now) cc) c.loop-row.yielded _ c.loop-row.yielded_by _ _ c.in-Some.row c.in-Some.is c.next.ensures.steps in
    let here = row_here f.width f.set.now f.places.now _ _ f.fit turn in
    λ i h. rw length_push
    (done_more i f.width f.set.now f.places.now _ (lane_counts c.loop-row.counts i) (c.loop-row.invariant i h) here.0 _ here.1 here.2 (lane_counts c.count_row.new.self i) (c.count_row.ensures i h))

pub call_leads-requires-clause-counted : goal.call_leads-requires-clause-counted
call_leads-requires-clause-counted c =
    let f = c.args.family.now in
    let end = YieldsList-end (YieldsList-from_first (λ row. row.now) (λ rest. rest) (rows_at f.width f.set.now f.places.now) cc) c.loop-row.yielded _ c.loop-row.yielded_by _ _ c.in-None.is c.next.ensures.steps in
    let size : length f.places.now ≤ length c.loop-row.yielded = omega (arith, end.1, given_length (λ p. take f.width (drop (p + 1) f.set.now)) f.places.now) in
    λ i h. done_all i f.width f.set.now f.places.now _ (lane_counts c.loop-row.counts i) (c.loop-row.invariant i h) size
