-- `of`: other than three, a rule that is none, or settings. Assumes nothing.
use mathlib.Core.Path.{sym}
use native.Mathlib.Omega.{arith}
use Rattle.column_file.proofs.Front.{settings_other, settings_rule, settings_fine}
use Rattle.column_file.proofs.settings.Settings.of.Goals as goal

pub returns-in_default : goal.returns-in_default
returns-in_default c = sym (settings_other _ (λ e. omega arith))

pub returns-in_default-2 : goal.returns-in_default-2
returns-in_default-2 c = sym (settings_other _ (λ e. omega arith))

pub returns-then-rule-gt1 : goal.returns-then-rule-gt1
returns-then-rule-gt1 c = sym (settings_rule _ (omega arith) c.if-rule-gt1.true)

pub returns : goal.returns
returns c = rw c.from.ensures (sym (settings_fine c.args.bytes.now (omega arith) c.if-rule-gt1.false))
