-- A difference and the one turned round: where b is not below x, |x - b| is at most c exactly where b - x is. Assumes nothing.
use Rattle.std.proofs.Common.{◌≡◌, ℕ, ◌+◌, ◌-◌, ◌*◌, ◌<◌, Bool, true, false, not, ltb, pos, refl, ap, ◌∙◌, true≢false, mul_comm, add_comm, mul-pos, zero-add, zero-mul, arith, ltb-false, le-ltb}
use lib.Ieee.{Float, nan, inf, fin, binary64, up, down, round, neg, sum, add, sub, below, lt, eq, le}
use lib.Ieee.Fits.{down_pos}
use Rattle.float.specs.Ops.{◌⊖◌}
use Rattle.float.specs.Methods.{abs_of}
use Rattle.words.proofs.Cases.{test}
use Rattle.float.proofs.Zero.{round-zero}
use Rattle.float.proofs.Order.{round_has}
use Rattle.float.proofs.Sums.{round_neg}

-- a rounded fraction without its sign
abs_neg : (x : Float) → abs_of (neg x) ≡ abs_of x
unfolding abs_of neg
abs_neg nan = refl
abs_neg (inf s) = refl
abs_neg (fin s m e) = refl

abs_plus : (a c : ℕ) → abs_of (round binary64 false a c) ≡ round binary64 false a c
unfolding abs_of
abs_plus a c = round_has (λ x. abs_of x ≡ x) false (λ n d. refl) refl binary64 a c

abs_minus : (a c : ℕ) → abs_of (round binary64 true a c) ≡ round binary64 false a c
abs_minus a c = ap abs_of (round_neg binary64 a c) ∙ abs_neg (round binary64 false a c) ∙ abs_plus a c

abs_round : (s : Bool) (a c : ℕ) → abs_of (round binary64 s a c) ≡ round binary64 false a c
abs_round true a c = abs_minus a c
abs_round false a c = abs_plus a c

-- the two zeros compare alike
zero-le : (z : Float) → le (fin false 0 (pos 0)) z ≡ le (fin true 0 (pos 0)) z
unfolding le lt eq
zero-le nan = refl
zero-le (inf true) = refl
zero-le (inf false) = refl
zero-le (fin true n d) = rw (zero-mul (down d), le-ltb (n * up d * 1) 0 (omega arith))
zero-le (fin false n d) = rw (zero-mul (down d), zero-add (n * up d * 1))

-- ±A / C less ±B / C, and turned round
sum_turned : (s t : Bool) (A B C : ℕ) → 0 < C → below t B s A ≡ false → (z : Float) → le (abs_of (sum binary64 s A (not t) B C)) z ≡ le (sum binary64 t B (not s) A C) z
unfolding sum
sum_turned false false A B C P h z =
    let k = ltb-false B A h in
    test (ltb A B)
    (λ l. rw (l, h, abs_round true (B - A) C))
    (λ l. let e : A - B ≡ B - A = omega (arith, ltb-false A B l) in rw (l, h, abs_round false (A - B) C, e))
sum_turned true true A B C P h z =
    let k = ltb-false A B h in
    test (ltb B A)
    (λ l. rw (l, h, abs_round true (A - B) C))
    (λ l. let e : A - B ≡ B - A = omega (arith, ltb-false B A l) in rw (l, h, abs_round false (A - B) C, e))
sum_turned false true A B C P h z =
    let k = ltb-false 0 (B + A) h in
    let a : A + B ≡ 0 = omega arith in
    let b : B + A ≡ 0 = omega arith in
    rw (abs_round false (A + B) C, a, b, round-zero false C P, round-zero true C P) (zero-le z)
sum_turned true false A B C P h z = rw (abs_round true (A + B) C, add_comm A B)

-- where b is not below x
pub turned : (x b z : Float) → lt b x ≡ false → le (abs_of (x ⊖ b)) z ≡ le (b ⊖ x) z
unfolding lt sub add neg abs_of
turned nan nan z h = refl
turned nan (inf t) z h = refl
turned nan (fin t n d) z h = refl
turned (inf s) nan z h = refl
turned (inf true) (inf true) z h = refl
turned (inf true) (inf false) z h = refl
turned (inf false) (inf true) z h = absurd (true≢false h)
turned (inf false) (inf false) z h = refl
turned (inf true) (fin t n d) z h = refl
turned (inf false) (fin t n d) z h = absurd (true≢false h)
turned (fin s m e) nan z h = refl
turned (fin s m e) (inf true) z h = absurd (true≢false h)
turned (fin s m e) (inf false) z h = refl
turned (fin s m e) (fin t n d) z h =
    rw (mul_comm (down d) (down e)) (sum_turned s t (m * up e * down d) (n * up d * down e) (down e * down d) (mul-pos (down_pos e) (down_pos d)) h z)
