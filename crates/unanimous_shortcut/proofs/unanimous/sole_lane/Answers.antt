-- `sole_lane`: the sums of the four. Assumes nothing.
use borrow.Author.Tests.{eq-eqb, ne_eqb}
use Rattle.std.proofs.Common.{◌≡◌, ◌+◌, ◌*◌, Some, None, get_or, rules, arith}
use Rattle.tie_rules.specs.Lanes.{no_lane}
use Rattle.tie_rules.proofs.Named.{answered}
use Rattle.unanimous_shortcut.specs.Unanimous.{sole_lane}
use Rattle.unanimous_shortcut.proofs.Sole.{sole_by_list}
use Rattle.unanimous_shortcut.proofs.unanimous.sole_lane.Goals as goal

pub returns-then-a-c-eq1 : goal.returns-then-a-c-eq1
returns-then-a-c-eq1 c =
    let ns = c.args.observations in
    let s = c.map.result in
    let by_list = sole_by_list ns s (λ k h. let called = c.map.ensures.items.at k 0 0 h in search rules) in
    let lane : get_or s 1 0 + 2 * get_or s 2 0 + 3 * get_or s 3 0 ≡ sole_lane ns = rw (← by_list, eq-eqb _ _ c.if-a-c-eq1.true) in
    let a = answered (Some (get_or s 1 0 + 2 * get_or s 2 0 + 3 * get_or s 3 0)) (sole_lane ns) (omega arith) lane in
    record { answer = a.answer; lane = a.lane; inside = a.inside }

pub returns : goal.returns
returns c =
    let ns = c.args.observations in
    let s = c.map.result in
    let by_list = sole_by_list ns s (λ k h. let called = c.map.ensures.items.at k 0 0 h in search rules) in
    let lane : no_lane ≡ sole_lane ns = rw (← by_list, ne_eqb _ _ c.if-a-c-eq1.false) in
    let a = answered None (sole_lane ns) tt lane in
    record { answer = a.answer; lane = a.lane; inside = a.inside }
