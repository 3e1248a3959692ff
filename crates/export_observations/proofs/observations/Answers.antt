-- `observations`: a state of another length, too short a buffer, or all counts. Assumes nothing.
use Rattle.std.proofs.Common.{◌≡◌, ◌≤◌, ◌&&◌, false, eqb, leb, length, refl, sym, arith, rules, eq-eqb, ne_eqb, le-leb}
use borrow.Author.Tests.{lt-leb}
use Rattle.lent_bytes.specs.Buffer.{length_written, written}
use Rattle.lent_text.proofs.Printed.{printed_written}
use Rattle.export_reports.proofs.Written.{nothing_said, too_short, all_said}
use Rattle.export_observations.specs.Observations.{observation_count_bytes}
use Rattle.export_observations.proofs.Laws.{eighty, not_eighty, eighty_length}
use Rattle.export_observations.proofs.observations.Goals as goal
use Rattle.export_observations.proofs.observations.Goals.{then-state-ne80-via-then-state-ne80, then-state-ne80-via-else-state-ne80+then-out-lt1044}

pub returns-then-state-ne80 : goal.returns-then-state-ne80
returns-then-state-ne80 c =
    let said = observation_count_bytes c.args.state.now in
    let none : (0 ≡ length_written said c.args.out.now) × (c.args.out.now ≡ written said c.args.out.now) =
    elim c.then-state-ne80.branch [
      | then-state-ne80-via-then-state-ne80 w ↦ nothing_said said c.args.out.now (not_eighty _ w.if-state-ne80.true)
      | then-state-ne80-via-else-state-ne80+then-out-lt1044 w ↦ too_short said c.args.out.now (omega (arith, w.if-out-lt1044.true, eighty_length _ w.if-state-ne80.false))
    ] in
    let unanswered : (eqb (length c.args.state.now) 80 && leb 1044 (length c.args.out.now)) ≡ false =
    elim c.then-state-ne80.branch [
      | then-state-ne80-via-then-state-ne80 w ↦ rw (ne_eqb _ 80 w.if-state-ne80.true)
      | then-state-ne80-via-else-state-ne80+then-out-lt1044 w ↦ rw (eq-eqb _ 80 w.if-state-ne80.false, lt-leb 1044 (length c.args.out.now) w.if-out-lt1044.true)
    ] in
    record { reply = none.0; some = sym unanswered; lent = none.1 }

pub returns : goal.returns
returns c =
    let said = observation_count_bytes c.args.state.now in
    let size = eighty_length _ c.if-state-ne80.false in
    let fits : length said ≤ length c.args.out.now = omega (arith, size, c.if-out-lt1044.false) in
    let printed = printed_written (rw (c.builder_of.ensures, ← eighty _ c.if-state-ne80.false) at c.put_all.ensures) refl fits in
    record {
      reply = omega (arith, size, all_said said c.args.out.now fits);
      some = rw (eq-eqb _ 80 c.if-state-ne80.false, le-leb 1044 (length c.args.out.now) c.if-out-lt1044.false);
      lent = search (rules, printed.1, c.put_all.ensures.buffer);
    }
