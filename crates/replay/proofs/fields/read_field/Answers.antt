-- `read_field`: byte by byte. Assumes nothing.
use Rattle.std.proofs.Common.{sym, ◌∙◌, arith, eq-eqb, length-set}
use Rattle.replay.specs.Fields.{field_bytes}
use Rattle.replay.proofs.Bytes.{next_byte, all_bytes}
use Rattle.replay.proofs.fields.read_field.Goals as goal

pub loop-i-preserved : goal.loop-i-preserved
loop-i-preserved g c =
    let size = c.in_ok-space.ensures.cases.1 in
    (simp length-set c.loop-i.invariant.0, next_byte c.in_ok-space.digits.now c.loop-i.b-items c.loop-i.i _ (omega arith) (omega (arith, size)) (sym c.in_ok-b.ensures) ∙ c.loop-i.invariant.1)

pub returns : goal.returns
unfolding field_bytes
returns g c =
    let size = c.in_ok-space.ensures.cases.1 in
    let all = sym (all_bytes c.in_ok-space.digits.now c.loop-i.b-items c.loop-i.i (omega arith) (omega (arith, size))) ∙ c.loop-i.invariant.1 in
    rw (c.in_ok-space.ensures.cases.0, eq-eqb _ _ c.if-space-ne32.false) all
