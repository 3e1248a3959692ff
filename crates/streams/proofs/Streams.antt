-- A room shows what is said of the whole stream, where one thing is said of all that are too long; and what fits a room is written there whole. Assumes nothing.
use mathlib.Core.Path.{◌≡◌, sym, ◌∙◌, ap}
use mathlib.Core.List.{List}
use Prim.Native.Nat.{ℕ, ◌≤◌, ◌<◌}
use native.Mathlib.Omega.{arith}
use borrow.Author.Tests.{le-leb, leb-true, leb-false}
use lib.Dec.{leb}
use lib.ListN.{length, take}
use lib.Seq.{length-take-le, take_all}
use Rattle.words.proofs.Cases.{test}
use Rattle.std.specs.Prelude.{unwrap_or}
use Rattle.lent_bytes.specs.Buffer.{written, written_length}
use Rattle.streams.specs.Streams.{FrontOf, onto}

-- what f says of bytes, and says alike of all that are more than `most`
module _ (f : List ℕ → List ℕ) (most : ℕ) (alike : (s t : List ℕ) → most < length s → most < length t → f s ≡ f t) where
  -- a stream came in whole, or both it and what came in are too long
  pub same_said : (stream : List ℕ) (n : ℕ) (room : List ℕ) → most < length room → FrontOf stream n room → f stream ≡ f (take n room)
  same_said stream n room h e =
      let l = length stream in
      let k = length room in
      test (leb l k)
      (λ b. ap f (sym (take_all k stream (leb-true l k b)) ∙ e))
      (λ b.
      let more : k < l = leb-false l k b in
      let full : length (take n room) ≡ k = ap length (sym e) ∙ length-take-le k stream (omega arith) in
      alike stream (take n room) (omega arith) (omega arith))

-- a text that fits
pub fits_onto : (t out : List ℕ) → length t ≤ length out → written t out ≡ onto t out
unfolding written
fits_onto t out h = rw (le-leb (length t) (length out) h)

-- and how long what was written is
pub fits_length : (t out : List ℕ) → length t ≤ length out → unwrap_or (written_length t out) 0 ≡ length t
unfolding written_length
fits_length t out h = rw (le-leb (length t) (length out) h)
