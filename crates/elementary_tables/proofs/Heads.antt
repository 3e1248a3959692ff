-- The rule of the table of exp: each head is the pattern of a number from 1 to 2. One test, computed over the whole table. Assumes nothing.
use Prim.Native.Nat.{ℕ, ◌≤◌, ◌<◌}
use mathlib.Core.Bool.{Bool, ◌&&◌}
use lib.Dec.{T, leb, ltb, leb→le, ltb→lt}
use lib.Ieee.Fits.{and_l, and_r}
use Rattle.words.specs.Claims.{every_from}
use Rattle.words.proofs.Claims.{below}
use Rattle.elementary_tables.specs.ExpTable.{exp_row_of}

-- the pattern of 1 is at most the head, and the head is below the pattern of 2
unfoldable pub from1to2 : ℕ → Bool
from1to2 j = leb 0x3ff0_0000_0000_0000 (exp_row_of j).head && ltb (exp_row_of j).head 0x4000_0000_0000_0000

table : T (every_from from1to2 0 128)
unfolding every_from exp_row_of from1to2
table = tt

pub head_from_1 : (j : ℕ) → j < 128 → 0x3ff0_0000_0000_0000 ≤ (exp_row_of j).head
unfolding from1to2
head_from_1 j h = leb→le _ _ (and_l (leb 0x3ff0_0000_0000_0000 (exp_row_of j).head) (ltb (exp_row_of j).head 0x4000_0000_0000_0000) (below from1to2 128 table j h))

pub head_below_2 : (j : ℕ) → j < 128 → (exp_row_of j).head < 0x4000_0000_0000_0000
unfolding from1to2
head_below_2 j h = ltb→lt _ _ (and_r (leb 0x3ff0_0000_0000_0000 (exp_row_of j).head) (ltb (exp_row_of j).head 0x4000_0000_0000_0000) (below from1to2 128 table j h))
