-- Bytes by their places. Assumes nothing.
use mathlib.Core.Path.{◌≡◌}
use mathlib.Core.List.{List, ◌∷◌}
use Prim.Native.Nat.{ℕ, ◌+◌, ◌<◌}
use native.Mathlib.Numerals.{add-one}
use lib.ListN.{length, drop}
use lib.Seq.{drop-cons}
use Rattle.words.specs.Lists.{byte_at}

-- the bytes from a place on: the byte there, and those after it
pub bytes_from : (s : List ℕ) (at : ℕ) → at < length s → drop at s ≡ byte_at s at ∷ drop (at + 1) s
bytes_from s at h = rw (add-one at, drop-cons s at 0 h)
