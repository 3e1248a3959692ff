-- The lane that alone was observed, by sums; and the shortcut where there is none. Assumes nothing.
use mathlib.Core.Path.{◌≡◌, refl}
use mathlib.Core.Bool.{Bool, true, false, not, ◌&&◌, ◌||◌}
use mathlib.Core.List.{List}
use Prim.Native.Nat.{ℕ, ◌+◌, ◌*◌, ◌≤◌, ◌<◌}
use native.Mathlib.Omega.{arith}
use lib.Dec.{ltb, eqb}
use lib.Ieee.{Float}
use lib.ListN.{get_or}
use borrow.Author.Tests.{ltb-true, ltb-false, le-ltb, eq-eqb, ne_eqb}
use Rattle.std.specs.Prelude.{None, if◌then◌else◌}
use Rattle.words.proofs.Cases.{test}
use Rattle.gap_tables.specs.declared.gaps.UnanimousGapTables.{UnanimousGapTables}
use Rattle.tie_rules.specs.declared.tie_rule.TieRule.{TieRule}
use Rattle.tie_rules.specs.Lanes.{counted, no_lane}
use Rattle.words.specs.Claims.{all_below}
use Rattle.unanimous_shortcut.specs.Unanimous.{first_seen, sole_lane, reply_for_lane, unanimous_reply}

-- 1 where a base was observed
abbrev pub seen_of : ℕ → ℕ
seen_of n =
    if ltb 0 n then 1
    else 0

-- by the sums of four such numbers
abbrev pub by_sums : ℕ → ℕ → ℕ → ℕ → ℕ
by_sums a c g t =
    if eqb (a + c + g + t) 1 then c + 2 * g + 3 * t
    else no_lane

-- a count of 0 is none
unseen : (n : ℕ) → eqb n 0 ≡ not (ltb 0 n)
unseen n = test (ltb 0 n) (λ t. rw t (ne_eqb n 0 (λ e. omega (arith, ltb-true 0 n t)))) (λ t. rw t (eq-eqb n 0 (omega (arith, ltb-false 0 n t))))

abbrev number : Bool → ℕ
number b =
    if b then 1
    else 0

-- the definition, by who was seen
abbrev by_tests : Bool → Bool → Bool → Bool → ℕ
by_tests p q r s =
    let i = if p then 0 else if q then 1 else if r then 2 else if s then 3 else no_lane in
    if (((eqb i 0 || not p) && (eqb i 1 || not q)) && (eqb i 2 || not r)) && (eqb i 3 || not s) then i
    else no_lane

-- in each of the sixteen cases
same : (p q r s : Bool) → by_sums (number p) (number q) (number r) (number s) ≡ by_tests p q r s
same true true true true = refl
same true true true false = refl
same true true false true = refl
same true true false false = refl
same true false true true = refl
same true false true false = refl
same true false false true = refl
same true false false false = refl
same false true true true = refl
same false true true false = refl
same false true false true = refl
same false true false false = refl
same false false true true = refl
same false false true false = refl
same false false false true = refl
same false false false false = refl

sole_by_sums : (ns : List ℕ) → by_sums (seen_of (counted ns 0)) (seen_of (counted ns 1)) (seen_of (counted ns 2)) (seen_of (counted ns 3)) ≡ sole_lane ns
unfolding sole_lane first_seen all_below
sole_by_sums ns =
    rw (unseen (counted ns 0), unseen (counted ns 1), unseen (counted ns 2), unseen (counted ns 3))
    (same (ltb 0 (counted ns 0)) (ltb 0 (counted ns 1)) (ltb 0 (counted ns 2)) (ltb 0 (counted ns 3)))

-- the same, by a list of the four
pub sole_by_list : (ns s : List ℕ) → ((k : ℕ) → k < 4 → get_or s k 0 ≡ seen_of (counted ns k)) → by_sums (get_or s 0 0) (get_or s 1 0) (get_or s 2 0) (get_or s 3 0) ≡ sole_lane ns
sole_by_list ns s seen = rw (seen 0 (omega arith), seen 1 (omega arith), seen 2 (omega arith), seen 3 (omega arith)) (sole_by_sums ns)

-- ---- where no lane is alone the shortcut defers

pub no_sole_reply : (t : UnanimousGapTables) (xs : List Float) (ns : List ℕ) (rule : TieRule) (i : ℕ) → i ≡ sole_lane ns → no_lane ≤ i
    → unanimous_reply t xs ns rule ≡ None
unfolding unanimous_reply reply_for_lane
no_sole_reply t xs ns rule i e h = rw (← e, le-ltb i no_lane h)
