-- A difference above 2^-52 is one of values in that order, infinities and NaN included. Assumes nothing.
use Rattle.std.proofs.Common.{◌≡◌, ℕ, ◌+◌, ◌-◌, ◌*◌, ◌<◌, Bool, true, false, not, ltb, negsuc, refl, mul-pos, arith, ltb-false}
use mathlib.Core.Bool.{false≢true}
use lib.Ieee.{Float, nan, inf, fin, binary64, up, down, round, sum, sub, below, lt, of_bits}
use lib.Ieee.Fits.{down_pos}
use Rattle.words.proofs.Cases.{test, clash}
use Rattle.float.specs.Ops.{◌⊖◌, epsilon}
use Rattle.float.proofs.Zero.{round-zero}
use Rattle.float.proofs.Order.{round_has}

-- 2^-52 by its parts
abbrev eps : Float
eps = fin false 1 (negsuc 51)

-- nothing rounded from below 0 is above it
negative : (n c : ℕ) → lt eps (round binary64 true n c) ≡ false
unfolding lt
negative n c = round_has (λ y. lt eps y ≡ false) true (λ m e. refl) refl binary64 n c

-- nor is 0
none : (n c : ℕ) → 0 < c → n ≡ 0 → lt eps (round binary64 false n c) ≡ false
unfolding lt
none n c C e = rw (e, round-zero false c C)

-- a / c - b / c, in the four cases of their signs
differ : (s : Bool) (a : ℕ) (t : Bool) (b c : ℕ) → 0 < c → lt eps (sum binary64 s a (not t) b c) ≡ true → below t b s a ≡ true
unfolding sum
differ false a false b c C h =
    test (ltb b a) (λ t. t)
    (λ f. test (ltb a b)
    (λ l. clash (rw l (negative (b - a) c)) h)
    (λ l. clash (rw l (none (a - b) c C (omega (arith, ltb-false b a f)))) h))
differ false a true b c C h = test (ltb 0 (b + a)) (λ t. t) (λ f. clash (none (a + b) c C (omega (arith, ltb-false 0 (b + a) f))) h)
differ true a false b c C h = clash (negative (a + b) c) h
differ true a true b c C h =
    test (ltb a b) (λ t. t)
    (λ f. test (ltb b a)
    (λ l. clash (rw (f, l) (negative (a - b) c)) h)
    (λ l. clash (rw (f, l) (none (a - b) c C (omega (arith, ltb-false a b f, ltb-false b a l)))) h))

in_order : (w l : Float) → lt eps (w ⊖ l) ≡ true → lt l w ≡ true
unfolding sub lt
in_order nan l h = absurd (false≢true h)
in_order (inf s) nan h = absurd (false≢true h)
in_order (inf true) (inf true) h = absurd (false≢true h)
in_order (inf true) (inf false) h = absurd (false≢true h)
in_order (inf false) (inf true) h = refl
in_order (inf false) (inf false) h = absurd (false≢true h)
in_order (inf true) (fin t n d) h = absurd (false≢true h)
in_order (inf false) (fin t n d) h = refl
in_order (fin s m e) nan h = absurd (false≢true h)
in_order (fin s m e) (inf true) h = refl
in_order (fin s m e) (inf false) h = absurd (false≢true h)
in_order (fin s m e) (fin t n d) h = differ s (m * up e * down d) t (n * up d * down e) (down e * down d) (mul-pos (down_pos e) (down_pos d)) h

pub gap_lt : (w l : Float) → lt epsilon (w ⊖ l) ≡ true → lt l w ≡ true
unfolding of_bits
gap_lt w l h = in_order w l h
