-- What is written into a buffer: a report of the buffer's length, or none; a listing that fits, or none. Assumes nothing.
use Rattle.std.proofs.Common.{◌≡◌, ℕ, ◌≤◌, false, eqb, leb, List, length, append-nil, arith, drop_of_length-le, ne_eqb, leb-true, leb-false}
use Rattle.words.proofs.Cases.{test}
use Rattle.lent_bytes.specs.Buffer.{length_written, written}

-- it is within the buffer
pub length_fits : (bs out : List ℕ) → length_written bs out ≤ length out
unfolding length_written
length_fits bs out = test (leb (length bs) (length out)) (λ t. rw t (leb-true (length bs) (length out) t)) (λ f. rw f (omega arith))

module _ (bs out : List ℕ) (h : length out ≡ 91) where
  -- 91 bytes were written: they are what the buffer holds
  pub whole : length_written bs out ≡ 91 → (length bs ≡ 91) × (written bs out ≡ bs)
  unfolding length_written written
  whole e =
      test (leb (length bs) (length out))
      (λ t.
      let n : length bs ≡ 91 = rw t at e in
      let k : length out ≤ length bs = omega arith in
      (n, rw (t, drop_of_length-le out k) (append-nil bs)))
      (λ f. absurd (let z : ◌≡◌ {A = ℕ} 0 91 = rw f at e in omega arith))

  -- another number of bytes was written
  pub other : (length_written bs out ≡ 91 → ⊥) → eqb (length bs) 91 ≡ false
  unfolding length_written
  other n =
      test (leb (length bs) (length out))
      (λ t. ne_eqb (length bs) 91 (λ e. n (rw t e)))
      (λ f. ne_eqb (length bs) 91 (λ e. absurd (omega (arith, leb-false (length bs) (length out) f))))
