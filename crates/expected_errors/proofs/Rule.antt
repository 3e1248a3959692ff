-- The rule of the table: one test over all of its numbers, which is computed, and the rule at each of them. Assumes nothing.
use Rattle.std.proofs.Common.{◌≡◌, ℕ, ◌+◌, ◌*◌, ◌^◌, ◌<◌, ◌≤◌, T, ltb, leb, sym, refl, subst, zero-le, le_trans, lt_of_lt_of_le, le_antisymm, one-mul, zero-mul, le-mul_of_pos_right, arith, ltb-true, leb-false, leb-true}
use native.Mathlib.Nat.{one-le-pow, pow-le-pow_right}
use lib.Ieee.Bits.{is_true}
use lib.Ieee.Fits.{and_l, and_r}
use lib.ListN.{get_or-eq_default}
use Rattle.words.proofs.Cases.{test}
use Rattle.words.specs.Claims.{every_from}
use Rattle.words.proofs.Claims.{below}
use Rattle.expected_errors.specs.Table.{Entry, is_entry, error_table, error_of, whole_table}
use Rattle.expected_errors.specs.Laws.{Brackets, TableLaws}
use Rattle.expected_errors.proofs.Powers.{root_le, within, fraction_below, fraction_above}

-- ---- the rule, shown once for the whole table

computed : T whole_table
unfolding every_from error_of error_table
computed = tt

-- the test says what the rule says
by_test : (q t : ℕ) → T (is_entry q t) → Entry q t
by_test q t h =
    let l = leb (t ^ 10 * 10 ^ q) (2 ^ 480) in
    let r = ltb (2 ^ 480) ((t + 1) ^ 10 * 10 ^ q) in
    (leb-true (t ^ 10 * 10 ^ q) (2 ^ 480) (is_true l (and_l l r h)), ltb-true (2 ^ 480) ((t + 1) ^ 10 * 10 ^ q) (is_true r (and_r l r h)))

in_table : (q : ℕ) → q < 256 → Entry q (error_of q)
in_table q h = by_test q (error_of q) (below (λ q. is_entry q (error_of q)) 256 computed q h)

-- past the table the number is 0
past_zero : (q : ℕ) → 256 ≤ q → error_of q ≡ 0
unfolding error_of error_table
past_zero q h = get_or-eq_default error_table 0 h

far : 2 ^ 480 < 10 ^ 256
far = ltb-true (2 ^ 480) (10 ^ 256) refl

past : (q : ℕ) → 256 ≤ q → Entry q 0
past q h =
    let more : 2 ^ 480 < 10 ^ q = lt_of_lt_of_le far (pow-le-pow_right (omega arith) h) in
    (subst (λ (x : ℕ). x ≤ 2 ^ 480) (sym (zero-mul (10 ^ q))) zero-le, subst (λ (x : ℕ). 2 ^ 480 < x) (sym (one-mul (10 ^ q))) more)

pub rule : (q : ℕ) → Entry q (error_of q)
rule q =
    test (leb 256 q)
    (λ e. subst (Entry q) (sym (past_zero q (leb-true 256 q e))) (past q (leb-true 256 q e)))
    (λ e. in_table q (leb-false 256 q e))

-- ---- what it says

pub only : (q t u : ℕ) → Entry q t → Entry q u → t ≡ u
only q t u h k = le_antisymm (within (2 ^ 480) (10 ^ q) t u h.0 k.1) (within (2 ^ 480) (10 ^ q) u t k.0 h.1)

pub brackets : (q t : ℕ) → Entry q t → Brackets q t
brackets q t h = record {
  below = λ a b pos k. fraction_below (2 ^ 480) (10 ^ q) t a b pos h.1 k;
  above = λ a b pos k. fraction_above (2 ^ 480) (10 ^ q) t a b pos (one-le-pow q 10 (omega arith)) h.0 k;
}

-- no number is above 2^48, as 10^q is at least 1
pub most : (q : ℕ) → error_of q ≤ 2 ^ 48
most q = root_le (error_of q) (2 ^ 48) (le_trans (le-mul_of_pos_right (error_of q ^ 10) (one-le-pow q 10 (omega arith))) (rule q).0)

pub table_laws : TableLaws
unfolding error_table
table_laws = record { bytes = refl; computed = computed; rule = rule; only = only; brackets = brackets }
