-- Reading off the front of a list of bytes. No position and no loop stands here.
use Rattle.std.specs.Prelude.{ℕ, zero, suc, ◌+◌, ◌*◌, List, [], ◌∷◌, leb, ltb, length, take, drop, Err, Ok}
use Rattle.std.specs.Prelude.{if◌then◌else◌}
use Rattle.refusals.specs.declared.Refusal.TheVariants.{FileTooLong, CutOff}
use Rattle.refusals.specs.Result.{Result}

-- what is read off the front, and the bytes after it; or the bytes do not reach
pub data Taken (A : Type 0) : Type 0 where
  taken : A → List ℕ → Taken A
  short : Taken A

-- go on with what is left
abbrev pub next : {A B : Type 0} → Taken A → (A → List ℕ → Taken B) → Taken B
next (taken a r) f = f a r
next short f = short

-- a count of one byte
unfoldable pub byte : List ℕ → Taken ℕ
byte [] = short
byte (a ∷ r) = taken a r

-- a count of two bytes, the low byte first
unfoldable pub word : List ℕ → Taken ℕ
word r = next (byte r) (λ low s. next (byte s) (λ high t. taken (low + 256 * high) t))

-- n bytes
unfoldable pub front : ℕ → List ℕ → Taken (List ℕ)
front n r =
    if leb n (length r) then taken (take n r) (drop n r)
    else short

-- the same kind of part, n times
unfoldable pub many : {A : Type 0} → (List ℕ → Taken A) → ℕ → List ℕ → Taken (List A)
many one zero r = taken [] r
many one (suc n) r = next (one r) (λ a s. next (many one n s) (λ l t. taken (a ∷ l) t))

-- nothing may be left
abbrev pub alone : {A : Type 0} → Taken A → Result A
alone short = Err CutOff
alone (taken a []) = Ok a
alone (taken a (x ∷ r)) = Err CutOff

-- the most bytes that a file, a part of one or a string set may have
abbrev pub longest_file : ℕ
longest_file = 65536

-- bytes that are one such part and nothing else: 1 where there are over 65,536 of them, and else 2 where they are not
abbrev pub lone : {A : Type 0} → (List ℕ → Taken A) → List ℕ → Result A
lone one s =
    if ltb longest_file (length s) then Err FileTooLong
    else alone (one s)
