-- A whole number that is rounded down by tenth powers: for any limit n and factor p, what t ^ 10 * p ≤ n < (t + 1) ^ 10 * p says of t. Assumes nothing.
use Rattle.std.proofs.Common.{◌≡◌, ℕ, zero, suc, ◌+◌, ◌*◌, ◌^◌, ◌<◌, ◌≤◌, leb, ◌≢◌, sym, ap, ◌∙◌, subst, le_trans, lt_of_lt_of_le, lt_of_le_of_lt, lt_irrefl, mul-le-mul_right, mul-lt-mul_of_pos_right, pow-suc, mul_right_comm, arith, leb-false, leb-true}
use native.Mathlib.Nat.{mul-mul-mul_comm, one-le-pow, pow-zero, pow-le-pow_left, pow-lt-pow_left}
use Rattle.words.proofs.Cases.{test}

-- ---- powers

mul-pow : (a b n : ℕ) → (a * b) ^ n ≡ a ^ n * b ^ n
mul-pow a b zero = rw (pow-zero (a * b), pow-zero a, pow-zero b)
mul-pow a b (suc n) =
    pow-suc (a * b) n ∙ ap (λ (x : ℕ). x * (a * b)) (mul-pow a b n) ∙ mul-mul-mul_comm (a ^ n) (b ^ n) a b
    ∙ ap (λ (x : ℕ). x * (b ^ n * b)) (sym (pow-suc a n)) ∙ ap (λ (x : ℕ). a ^ suc n * x) (sym (pow-suc b n))

ten : ◌≢◌ {A = ℕ} 10 0
ten e = omega arith

-- a power that is no larger has a root that is no larger
pub root_le : (a b : ℕ) → a ^ 10 ≤ b ^ 10 → a ≤ b
root_le a b h =
    test (leb a b)
    (λ e. leb-true a b e)
    (λ e. absurd (lt_irrefl (a ^ 10) (lt_of_le_of_lt h (pow-lt-pow_left (leb-false a b e) ten))))

-- ---- the rule

module _ (n p : ℕ) where
  -- a power times p
  abbrev scaled : ℕ → ℕ
  scaled x = x ^ 10 * p

  larger : (a b : ℕ) → a ≤ b → scaled a ≤ scaled b
  larger a b h = mul-le-mul_right p (pow-le-pow_left h 10)

  times : (a b : ℕ) → scaled a * b ^ 10 ≡ scaled (a * b)
  times a b = mul_right_comm (a ^ 10) p (b ^ 10) ∙ ap (λ (x : ℕ). x * p) (sym (mul-pow a b 10))

  -- what is within the limit is no larger than what is next to it
  pub within : (t u : ℕ) → scaled t ≤ n → n < scaled (u + 1) → t ≤ u
  within t u h k =
      test (leb t u)
      (λ e. leb-true t u e)
      (λ e.
      let l = leb-false t u e in
      absurd (lt_irrefl n (lt_of_lt_of_le k (le_trans (larger (u + 1) t (omega arith)) h))))

  module _ (t a b : ℕ) (pos : 0 < b) where
    -- a fraction a/b within the limit is below t + 1
    pub fraction_below : n < scaled (t + 1) → scaled a ≤ n * b ^ 10 → a < (t + 1) * b
    fraction_below k h =
        test (leb ((t + 1) * b) a)
        (λ e.
        let far : n * b ^ 10 < scaled ((t + 1) * b) = subst (λ (x : ℕ). n * b ^ 10 < x) (times (t + 1) b) (mul-lt-mul_of_pos_right k (one-le-pow 10 b pos)) in
        absurd (lt_irrefl (n * b ^ 10) (lt_of_lt_of_le far (le_trans (larger ((t + 1) * b) a (leb-true ((t + 1) * b) a e)) h))))
        (λ e. leb-false ((t + 1) * b) a e)

    -- a fraction a/b that reaches the limit is not below t
    pub fraction_above : 0 < p → scaled t ≤ n → n * b ^ 10 ≤ scaled a → t * b ≤ a
    fraction_above some k h =
        test (leb (t * b) a)
        (λ e. leb-true (t * b) a e)
        (λ e.
        let less : scaled a < scaled (t * b) = mul-lt-mul_of_pos_right (pow-lt-pow_left (leb-false (t * b) a e) ten) some in
        let near : scaled (t * b) ≤ n * b ^ 10 = subst (λ (x : ℕ). x ≤ n * b ^ 10) (times t b) (mul-le-mul_right (b ^ 10) k) in
        absurd (lt_irrefl (scaled a) (lt_of_lt_of_le less (le_trans near h))))
