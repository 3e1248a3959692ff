-- `is_dna_base`: the byte without bit 5, and the five tests of it, computed at all 256 bytes. Assumes nothing.
use mathlib.Core.Path.{◌≡◌, refl}
use mathlib.Core.Bool.{Bool, true, false, ◌||◌, beq}
use Prim.Native.Nat.{ℕ, ◌-◌, ◌*◌, ◌/◌, ◌%◌}
use native.Mathlib.Omega.{arith}
use lib.Dec.{T, eqb}
use Rattle.words.specs.Claims.{every_from}
use Rattle.words.proofs.Claims.{below}
use Rattle.umi_column.specs.Dna.{to_ascii_uppercase, is_dna_base}
use Rattle.umi_column.proofs.dna.is_dna_base.Goals as goal

same : (a b : Bool) → T (beq a b) → a ≡ b
same true true h = refl
same true false h = absurd h
same false true h = absurd h
same false false h = refl

-- what the code makes of a byte
abbrev upper : ℕ → ℕ
upper x = x - x / 32 % 2 * 32

abbrev tested : ℕ → Bool
tested x = (eqb (upper x) 65 || eqb (upper x) 67) || (eqb (upper x) 71 || eqb (upper x) 84) || eqb (upper x) 78

unfoldable tested_at : ℕ → Bool
tested_at x = beq (tested x) (is_dna_base x)

all_tested : T (every_from tested_at 0 256)
unfolding every_from tested_at is_dna_base to_ascii_uppercase
all_tested = tt

pub returns : goal.returns
unfolding tested_at
returns c = same (tested c.args.b) (is_dna_base c.args.b) (below tested_at 256 all_tested c.args.b (omega arith))
