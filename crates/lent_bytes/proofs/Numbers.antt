-- Numbers as bytes: how many there are, and that they are read back. Assumes nothing.
use mathlib.Core.Path.{◌≡◌, refl, sym, ◌∙◌, ap}
use mathlib.Core.List.{List, [], ◌∷◌}
use Prim.Native.Nat.{ℕ, zero, suc, ◌+◌, ◌*◌, ◌/◌, ◌%◌, ◌^◌, ◌<◌}
use native.Mathlib.Nat.{pow-suc, div-one, div-div-eq-div-mul}
use native.Mathlib.Numerals.{add-one}
use native.Mathlib.Omega.{arith}
use lib.ListN.{length}
use lib.Seq.{take-nil, drop-nil}
use Rattle.std.specs.Int.{Width, byte_len, bytes_low_first, to_le_bytes, from_le_bytes, w32}
use Rattle.words.specs.Lists.{byte_at, listed}
use Rattle.lent_bytes.specs.Bytes.{joined, number_bytes, four_bytes, number_of_bytes, number_at}
use Rattle.lent_bytes.proofs.Joined.{joined_length}

-- a number has as many bytes as it is given
pub bytes_length : (n x : ℕ) → length (number_bytes n x) ≡ n
unfolding number_bytes
bytes_length zero x = refl
bytes_length (suc n) x = ap suc (bytes_length n (x / 256))

-- four bytes each
pub fours_length : (l : List ℕ) → length (joined four_bytes l) ≡ 4 * length l
fours_length l = joined_length four_bytes 4 (λ x. bytes_length 4 x) l

-- what has room in its bytes is read back from them
pub read_back : (n x : ℕ) → x < 256 ^ n → number_of_bytes (number_bytes n x) ≡ x
unfolding number_bytes number_of_bytes
read_back zero x h = omega arith
read_back (suc n) x h =
    let k : x < 256 ^ n * 256 = rw (pow-suc 256 n) at h in
    rw (read_back n (x / 256) (omega arith)) (omega arith)

-- nothing read
pub number-none : (s : List ℕ) (at : ℕ) → 0 ≡ number_at s 0 at
unfolding number_at number_of_bytes
number-none s at = refl

-- the byte at a place, 0 where there is none, and then those after it
pub number_more : (s : List ℕ) (at k : ℕ) → number_at s (k + 1) at ≡ byte_at s at + 256 * number_at s k (at + 1)
unfolding number_at number_of_bytes
number_more [] at k = rw (drop-nil at, drop-nil (at + 1), take-nil (k + 1), take-nil k)
number_more (x ∷ s) zero k = rw (add-one k)
number_more (x ∷ s) (suc at) k = let e : suc at + 1 ≡ suc (at + 1) = omega arith in rw e (number_more s at k)

-- four of them
pub number_four : (s : List ℕ) (at : ℕ) → from_le_bytes w32 (listed (byte_at s) at 4) ≡ number_at s 4 at
unfolding listed
number_four s at =
    let a = number_more s at 3 in
    let b = number_more s (at + 1) 2 in
    let c = number_more s (at + 1 + 1) 1 in
    let d = number_more s (at + 1 + 1 + 1) 0 in
    omega (arith, number-none s (at + 1 + 1 + 1 + 1))

-- std's bytes of a number, from byte i on, are those of what the bytes before leave of it
low_bytes : (k i n m : ℕ) → m ≡ n / 256 ^ i → bytes_low_first i k n ≡ number_bytes k m
unfolding number_bytes
low_bytes zero i n m e = refl
low_bytes (suc k) zero n m e =
    let f : m ≡ n = e ∙ div-one n in
    rw (low_bytes k 1 n (m / 256) (ap (λ (x : ℕ). x / 256) f)) (ap (λ (x : ℕ). x % 256 ∷ number_bytes k (m / 256)) (sym f))
low_bytes (suc k) (suc i) n m e =
    let f : m / 256 ≡ n / 256 ^ suc (suc i) = ap (λ (x : ℕ). x / 256) e ∙ div-div-eq-div-mul n (256 ^ suc i) 256 ∙ ap (λ (x : ℕ). n / x) (sym (pow-suc 256 (suc i))) in
    rw (low_bytes k (suc (suc i)) n (m / 256) f) (ap (λ (x : ℕ). x % 256 ∷ number_bytes k (m / 256)) (sym e))

-- and all of them
pub le_bytes : (w : Width) (n : ℕ) → to_le_bytes w n ≡ number_bytes (byte_len w) n
le_bytes w n = low_bytes (byte_len w) 0 n n (sym (div-one n))
