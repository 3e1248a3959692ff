-- `put_whole`: a text that is too long, and one that fits. Assumes nothing.
use Rattle.std.proofs.Common.{◌≡◌, ◌∙◌, leb, length, true, false, leb-true, refl, rules}
use Rattle.lent_bytes.specs.Buffer.{written, written_length}
use Rattle.lent_text.proofs.Printed.{printed_written}
use Rattle.whole_text.proofs.put_whole.Goals as goal

pub returns-then-not-fits : goal.returns-then-not-fits
unfolding written written_length
returns-then-not-fits g c =
    let long : leb (length (g.T.Text.text c.args.text.now)) (length c.args.out.now) ≡ false = cc in
    record { reply = rw long; lent = rw long }

pub returns : goal.returns
unfolding written_length
returns g c =
    let t = g.T.Text.text c.args.text.now in
    let fits : leb (length t) (length c.args.out.now) ≡ true = cc in
    let put = printed_written c.put.ensures refl (leb-true (length t) (length c.args.out.now) fits) in
    record { reply = rw (put.0, fits); lent = (search rules) ∙ put.1 }
