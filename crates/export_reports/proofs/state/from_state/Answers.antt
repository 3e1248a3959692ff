-- `from_state`: `run` on the builder of the 80 bytes. Assumes nothing.
use Rattle.std.proofs.Common.{eq-eqb, ne_eqb}
use Rattle.export_reports.specs.State.{builder_script_bytes}
use Rattle.export_reports.proofs.Written.{nothing_said}
use Rattle.export_reports.proofs.state.from_state.Goals as goal

pub returns-then-state-ne80 : goal.returns-then-state-ne80
unfolding builder_script_bytes
returns-then-state-ne80 c =
    let none = nothing_said (builder_script_bytes c.args.pre.0 c.args.post.0 c.args.rule c.args.state.now c.args.script.now) c.args.out.now (rw (ne_eqb _ 80 c.if-state-ne80.true)) in
    record { reply = none.0; some = rw (ne_eqb _ 80 c.if-state-ne80.true); lent = none.1 }

pub returns : goal.returns
unfolding builder_script_bytes
returns c =
    record {
      reply = rw (eq-eqb _ 80 c.if-state-ne80.false, ← c.builder_of.ensures) c.run.ensures.reply;
      some = rw (eq-eqb _ 80 c.if-state-ne80.false, ← c.builder_of.ensures) c.run.ensures.some;
      lent = rw (eq-eqb _ 80 c.if-state-ne80.false, ← c.builder_of.ensures) c.run.ensures.lent;
    }
