-- A number in decimal: digit by digit, how many there are, and that each is one. Assumes nothing.
use Rattle.std.specs.List.{list_all}
use mathlib.Core.Path.{◌≡◌, refl}
use mathlib.Core.Bool.{Bool, true}
use mathlib.Core.List.{List, [], ◌∷◌, ◌++◌}
use Prim.Native.Nat.{ℕ, zero, suc, ◌+◌, ◌*◌, ◌/◌, ◌%◌, ◌^◌, ◌≤◌, ◌<◌}
use native.Mathlib.Nat.{pow-suc}
use native.Mathlib.Omega.{arith}
use borrow.Author.Tests.{lt-ltb, le-ltb, le-leb, ltb-true, ltb-false}
use lib.Dec.{ltb}
use lib.ListN.{length, length-append}
use Rattle.words.proofs.Cases.{test, both}
use Rattle.lent_text.specs.Text.{digits, decimal, is_digit}

-- where enough digits are allowed, it does not matter how many are
digits_same : (j k n : ℕ) → n < j → n < k → digits j n ≡ digits k n
unfolding digits
digits_same zero k n h i = absurd (omega arith)
digits_same (suc j) zero n h i = absurd (omega arith)
digits_same (suc j) (suc k) n h i =
    test
    (ltb n 10)
    (λ e. rw e)
    (λ e. let f = ltb-false n 10 e in rw (e, digits_same j k (n / 10) (omega arith) (omega arith)))

-- one digit
pub decimal_one : (n : ℕ) → n < 10 → decimal n ≡ (48 + n) ∷ []
unfolding decimal digits
decimal_one n h = rw (lt-ltb n 10 h)

-- the digits before the last one, and the last one
pub decimal_more : (n : ℕ) → 10 ≤ n → decimal n ≡ decimal (n / 10) ++ ((48 + n % 10) ∷ [])
unfolding decimal digits
decimal_more n h = rw (le-ltb n 10 h, digits_same n (suc (n / 10)) (n / 10) (omega arith) (omega arith))

-- A number below 10 ^ k takes k digits at most. Of a large number this computes, where `decimal` itself takes as many steps as the number is large.
pub decimal_few : (k n : ℕ) → 0 < k → n < 10 ^ k → decimal n ≡ digits k n
unfolding digits
decimal_few zero n p h = absurd (omega arith)
decimal_few (suc zero) n p h = rw (decimal_one n h, lt-ltb n 10 h)
decimal_few (suc (suc k)) n p h =
    let i : n < 10 ^ suc k * 10 = rw (pow-suc 10 (suc k)) at h in
    test
    (ltb n 10)
    (λ e. rw (e, decimal_one n (ltb-true n 10 e)))
    (λ e. rw (e, decimal_more n (ltb-false n 10 e), decimal_few (suc k) (n / 10) (omega arith) (omega arith)))

-- there are no more digits than are allowed
digits_length : (k n : ℕ) → length (digits k n) ≤ k
unfolding digits
digits_length zero n = omega arith
digits_length (suc k) n =
    let m = digits_length k (n / 10) in
    test (ltb n 10) (λ e. rw e (omega arith)) (λ e. rw (e, length-append) (omega arith))

-- a number below 10 ^ k has at most k digits
pub decimal_length : (k n : ℕ) → 0 < k → n < 10 ^ k → length (decimal n) ≤ k
decimal_length k n p h = rw (decimal_few k n p h) (digits_length k n)

-- each entry of two lists passes
every_append : (p : ℕ → Bool) (s t : List ℕ) → list_all p s ≡ true → list_all p t ≡ true → list_all p (s ++ t) ≡ true
every_append p [] t h k = k
every_append p (x ∷ s) t h k =
    let b = both (p x) (list_all p s) h in
    rw b.0 (every_append p s t b.1 k)

-- a digit's byte
one_digit : (d : ℕ) → d < 10 → list_all is_digit ((48 + d) ∷ []) ≡ true
one_digit d h = rw (le-leb 48 (48 + d) (omega arith), le-leb (48 + d) 57 (omega arith))

-- each byte is a digit, however many digits are allowed
digits_digits : (k n : ℕ) → list_all is_digit (digits k n) ≡ true
unfolding digits
digits_digits zero n = refl
digits_digits (suc k) n =
    test
    (ltb n 10)
    (λ e. rw e (one_digit n (ltb-true n 10 e)))
    (λ e. rw e (every_append is_digit (digits k (n / 10)) ((48 + n % 10) ∷ []) (digits_digits k (n / 10)) (one_digit (n % 10) (omega arith))))

-- each byte is a digit
pub decimal-digits : (n : ℕ) → list_all is_digit (decimal n) ≡ true
unfolding decimal
decimal-digits n = digits_digits (suc n) n
