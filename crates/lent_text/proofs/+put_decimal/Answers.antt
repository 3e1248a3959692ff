-- `put_decimal`: one digit, or those before the last and then the last. Assumes nothing.
use mathlib.Core.Path.{sym}
use native.Mathlib.Omega.{arith}
use Rattle.lent_text.proofs.Put.{put_then, put_as}
use Rattle.lent_text.proofs.Decimal.{decimal_one, decimal_more}
use Rattle.lent_text.proofs.+put_decimal.Goals as goal

pub returns-then-n-lt10 : goal.returns-then-n-lt10
returns-then-n-lt10 t c = put_as c.put_byte.ensures (sym (decimal_one c.args.n (omega arith)))

pub returns : goal.returns
returns t c = put_as (put_then c.put_decimal-place.ensures c.put_byte-2.ensures) (sym (decimal_more c.args.n (omega arith)))
