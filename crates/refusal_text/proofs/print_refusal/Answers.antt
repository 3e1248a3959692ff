-- `print_refusal`: the line is put aside, and then into what is borrowed. Assumes nothing.
use mathlib.Core.Path.{refl, sym}
use native.Mathlib.Omega.{arith}
use lib.Seq.{length-take-le}
use Rattle.std.proofs.Common.{rules}
use Rattle.lent_bytes.proofs.Buffer.{sent_length, sent_bytes}
use Rattle.refusal_text.proofs.Lines.{line_aside}
use Rattle.refusal_text.proofs.print_refusal.Goals as goal

pub slice_bounds-aside-end : goal.slice_bounds-aside-end
slice_bounds-aside-end c = let l = line_aside _ c.put_refusal.ensures refl (omega arith) in omega arith

pub slice_bounds-write_front-end : goal.slice_bounds-write_front-end
slice_bounds-write_front-end c = let l = line_aside _ c.put_refusal.ensures refl (omega arith) in sym (length-take-le _ _ (omega arith))

pub returns-clause-reply : goal.returns-clause-reply
returns-clause-reply c =
    let l = line_aside _ c.put_refusal.ensures refl (omega arith) in
    sent_length _ (grind (arith, l.2, c.put_refusal.ensures.buffer)) l.0 c.write_front.ensures.reply c.then_some.ensures

pub returns-clause-lent : goal.returns-clause-lent
returns-clause-lent c =
    let l = line_aside _ c.put_refusal.ensures refl (omega arith) in
    sent_bytes _ (search (rules, l.2, c.put_refusal.ensures.buffer)) c.write_front.ensures.lent
