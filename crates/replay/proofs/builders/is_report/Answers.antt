-- `is_report`: a report of ours is compared, and anything else is none. Assumes nothing.
use Rattle.std.proofs.Common.{◌≡◌, ℕ, refl, sym, ◌∙◌, eq-eqb, arith}
use Rattle.replay.proofs.Reports.{whole, other}
use Rattle.replay.proofs.builders.is_report.Goals as goal

pub returns-in_err-n : goal.returns-in_err-n
returns-in_err-n c = rw (c.from_residual.ensures, other _ _ refl (λ e. let none : ◌≡◌ {A = ℕ} 0 91 = c.in_err-n.ensures.reply ∙ e in omega arith))

pub returns-then-n-ne91 : goal.returns-then-n-ne91
returns-then-n-ne91 c = rw (other _ _ refl (λ e. c.if-n-ne91.true (c.in_ok-n.ensures.reply ∙ e)))

pub returns : goal.returns
returns c =
    let ours = whole _ _ refl (sym c.in_ok-n.ensures.reply ∙ c.if-n-ne91.false) in
    rw (eq-eqb _ 91 ours.0, c.eq.ensures, c.from_state.ensures.lent, ours.1)
