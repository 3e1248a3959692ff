-- Bytes in digits, two for each, read one by one. Assumes nothing.
use Rattle.std.proofs.Common.{◌≡◌, ℕ, suc, ◌+◌, ◌*◌, ◌<◌, ◌≤◌, List, ◌∷◌, ◌++◌, Option, Some, None, length, get_or, take, drop, set, refl, add-one, append-nil, arith, drop_of_length-le, take_all, drop-cons, take-suc-set}
use lib.Seq.{append_snoc}
use Rattle.std.specs.Prelude.{option_map}
use Rattle.replay.specs.Fields.{byte_of_digits, bytes_of_digits}

module _ (digits out : List ℕ) (i : ℕ) where
  -- the digits of byte i, and those of the others
  digits_at : 2 * i + 1 < length digits → drop (2 * i) digits ≡ get_or digits (2 * i) 0 ∷ get_or digits (2 * i + 1) 0 ∷ drop (2 * (i + 1)) digits
  digits_at h =
      let l : 2 * i < length digits = omega arith in
      let k : suc (2 * i + 1) ≡ 2 * (i + 1) = omega arith in
      rw (drop-cons digits (2 * i) 0 l, ← add-one (2 * i), drop-cons digits (2 * i + 1) 0 h, k)

  -- byte i joins those that are read
  joins : (b : ℕ) (o : Option (List ℕ)) → i < length out → option_map (λ bs. take (i + 1) (set out i b) ++ bs) o ≡ option_map (λ bs. take i out ++ bs) (option_map (λ bs. b ∷ bs) o)
  joins b None l = refl
  joins b (Some bs) l = rw (add-one i, take-suc-set out i b l, append_snoc (take i out) b bs)

  pub next_byte : (b : ℕ) → i < length out → 2 * i + 1 < length digits → byte_of_digits (get_or digits (2 * i) 0) (get_or digits (2 * i + 1) 0) ≡ Some b → option_map (λ bs. take (i + 1) (set out i b) ++ bs) (bytes_of_digits (drop (2 * (i + 1)) digits)) ≡ option_map (λ bs. take i out ++ bs) (bytes_of_digits (drop (2 * i) digits))
  unfolding bytes_of_digits
  next_byte b l h e = rw (digits_at h, e) (joins b _ l)

  -- a byte is none
  pub no_byte : 2 * i + 1 < length digits → byte_of_digits (get_or digits (2 * i) 0) (get_or digits (2 * i + 1) 0) ≡ None → option_map (λ bs. take i out ++ bs) (bytes_of_digits (drop (2 * i) digits)) ≡ None
  unfolding bytes_of_digits
  no_byte h e = rw (digits_at h, e)

  -- no digit is left
  pub all_bytes : length out ≤ i → length digits ≤ 2 * i → option_map (λ bs. take i out ++ bs) (bytes_of_digits (drop (2 * i) digits)) ≡ Some out
  unfolding bytes_of_digits
  all_bytes l h = rw (take_all i out l, drop_of_length-le digits h, append-nil out)
