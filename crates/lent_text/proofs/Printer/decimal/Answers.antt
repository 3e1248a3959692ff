-- `decimal`: one digit alone. Assumes nothing.
use mathlib.Core.Path.{sym}
use native.Mathlib.Omega.{arith}
use Rattle.lent_text.proofs.Printed.{printed_as}
use Rattle.lent_text.proofs.Decimal.{decimal_one}
use Rattle.lent_text.proofs.Printer.decimal.Goals as goal

pub returns-then-n-le9 : goal.returns-then-n-le9
returns-then-n-le9 c = printed_as c.byte.ensures (sym (decimal_one c.args.n (omega arith)))
