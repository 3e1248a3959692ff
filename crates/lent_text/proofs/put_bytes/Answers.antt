-- `put_bytes`: all copied, or nothing to write, or those passed are put and then one more. Assumes nothing.
use mathlib.Core.Path.{◌≡◌, sym, ◌∙◌}
use native.Mathlib.Omega.{arith}
use borrow.Author.Rules.{rules}
use borrow.Author.Tests.{leb-true, leb-false}
use lib.Seq.{take_all}
use Rattle.std.proofs.lemmas.List.{take_more}
use Rattle.lent_bytes.proofs.Buffer.{fits_written_at, short_written_at}
use Rattle.lent_text.proofs.Put.{sets_out, put_then, put_as}
use Rattle.lent_text.proofs.put_bytes.Goals as goal

pub returns-then-write_at : goal.returns-then-write_at
returns-then-write_at c =
    let a = c.args in
    let fits = leb-true _ _ (sym c.if-write_at.ensures.reply) in
    record { room = search rules; place = search rules; bytes = c.write_at.ensures.lent ∙ sym (fits_written_at a.at a.bytes.now a.out.now fits) }

pub returns-then-out-at : goal.returns-then-out-at
returns-then-out-at c =
    let a = c.args in
    let short = leb-false _ _ (sym c.if-write_at.ensures.reply) in
    let same : c.write_at.new.out ≡ a.out.now = c.write_at.ensures.lent ∙ sym (short_written_at a.at a.bytes.now a.out.now short) in
    let past = rw same at c.if-out-at.true in
    record { room = search rules; place = search rules; bytes = same ∙ sym (sets_out a.out.now a.at a.bytes.now past) }

pub loop-byte-preserved : goal.loop-byte-preserved
loop-byte-preserved c =
    put_as (put_then c.loop-byte.invariant c.put_byte-place.ensures) (sym (take_more c.args.bytes.now c.loop-byte.byte-index 0 (omega arith)))

pub returns : goal.returns
returns c =
    let a = c.args in
    let short = leb-false _ _ (sym c.if-write_at.ensures.reply) in
    let same = c.write_at.ensures.lent ∙ sym (short_written_at a.at a.bytes.now a.out.now short) in
    rw same at (put_as c.loop-byte.invariant (take_all c.loop-byte.byte-index a.bytes.now (omega arith)))
