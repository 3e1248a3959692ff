-- `abs`: the pattern without its sign is that of the value without its sign. Assumes nothing.
use Rattle.std.proofs.Common.{◌≡◌, false, is_nan, sym, ◌∙◌}
use lib.Ieee.Bits.{nan_bits_is}
use Rattle.float.proofs.Patterns.{abs_bits, abs_nan, abs_of-nan}
use Rattle.float.proofs.abs.Goals as goal

pub returns-then-is_nan : goal.returns-then-is_nan
returns-then-is_nan c = abs_of-nan _ (sym c.is_nan.ensures.value ∙ c.if-is_nan.true)

pub float_from_bits-result : goal.float_from_bits-result
float_from_bits-result c =
    let number : is_nan c.args.x ≡ false = sym c.is_nan.ensures.value ∙ c.if-is_nan.false in
    rw (nan_bits_is, abs_bits _ c.well_formed.0.1 number, abs_nan, number) tt

pub returns-else-is_nan : goal.returns-else-is_nan
returns-else-is_nan c = abs_bits _ c.well_formed.0.1 (sym c.is_nan.ensures.value ∙ c.if-is_nan.false)
