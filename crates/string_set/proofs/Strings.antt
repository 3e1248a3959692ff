-- What is said of a set, by what its count and its strings leave. Assumes nothing.
use Rattle.std.specs.Bool.{◌==◌, then_some}
use Rattle.std.specs.Option.{ok_or}
use Rattle.std.proofs.lemmas.List.{nil_from_length}
use mathlib.Core.Path.{◌≡◌}
use mathlib.Core.List.{List, [], ◌∷◌}
use Prim.Native.Nat.{ℕ, ◌+◌, ◌≤◌, ◌<◌}
use native.Mathlib.Omega.{arith}
use borrow.Author.Tests.{ltb-true, ltb-false, ne_eqb}
use lib.Dec.{ltb}
use lib.ListN.{length, take, drop}
use Rattle.words.proofs.Cases.{test}
use Rattle.words.specs.Lists.{byte_at}
use Rattle.refusals.specs.declared.Refusal.TheVariants.{CutOff}
use Rattle.refusals.specs.Result.{map_ok}
use Rattle.string_set.specs.Readers.{taken, short, byte, many, alone}
use Rattle.string_set.specs.StringSet.{string, string_set}
use Rattle.string_set.proofs.Readers.{byte-at, byte_end, front_at, front-end}

pub set_none : (s : List ℕ) → length s ≡ 0 → string_set s ≡ short
unfolding string_set byte
set_none s h = rw (nil_from_length s h)

-- n strings are announced
module _ (n : ℕ) (s : List ℕ) where
  pub set_cut : many string n s ≡ short → string_set (n ∷ s) ≡ short
  unfolding string_set byte
  set_cut e = e

  pub set_read : (l : List (List ℕ)) (rest : List ℕ) → many string n s ≡ taken l rest → length l ≡ n → ok_or (then_some (length rest == 0) n) CutOff ≡ map_ok length (alone (string_set (n ∷ s)))
  unfolding string_set byte
  set_read l [] e h = rw (e, h)
  set_read l (x ∷ r) e h = rw (e, ne_eqb (length (x ∷ r)) 0 (λ z. omega arith))

-- the string whose length byte is at a place
unfoldable pub string_at : List ℕ → ℕ → List ℕ
string_at s p = take (byte_at s p) (drop (p + 1) s)

module _ (s : List ℕ) (at : ℕ) where
  pub string_at_lem : at + 1 + byte_at s at ≤ length s → string (drop at s) ≡ taken (string_at s at) (drop (at + 1 + byte_at s at) s)
  unfolding string string_at
  string_at_lem h = rw (byte-at s at (omega arith), front_at s (at + 1) (byte_at s at) h)

  pub string_cut : length s < at + 1 + byte_at s at → string (drop at s) ≡ short
  unfolding string
  string_cut h =
      test (ltb at (length s))
      (λ t. let k : at < length s = ltb-true at (length s) t in rw (byte-at s at k, front-end s (at + 1) (byte_at s at) (omega arith) h))
      (λ t. rw (byte_end s at (ltb-false at (length s) t)))
