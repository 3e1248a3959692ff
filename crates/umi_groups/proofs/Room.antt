-- Room for what was found. Assumes nothing.
use Rattle.std.specs.Prelude.{Err, Ok}
use mathlib.Core.Path.{◌≡◌, refl}
use mathlib.Core.List.{List}
use Prim.Native.Nat.{ℕ, ◌≤◌, ◌<◌}
use native.Mathlib.Omega.{arith}
use borrow.Author.Tests.{lt-ltb, le-ltb, ltb-true, ltb-false}
use lib.Dec.{ltb}
use lib.ListN.{length}
use Rattle.words.proofs.Cases.{test}
use Rattle.refusals.specs.declared.Refusal.TheVariants.{BufferTooShort}
use Rattle.refusals.specs.Result.{Result, and_then}
use Rattle.umi_groups.specs.Found.{Found, room_for, found_length}

module _ (out : List ℕ) (f : Found) where
  pub room_short : length out < length f.text → room_for out f ≡ Err BufferTooShort
  unfolding room_for
  room_short h = rw (lt-ltb (length out) (length f.text) h)

  pub room_enough : length f.text ≤ length out → room_for out f ≡ Ok f
  unfolding room_for
  room_enough h = rw (le-ltb (length out) (length f.text) h)

module _ (out : List ℕ) where
  pub room_fits : (t : Result Found) → found_length t ≤ length out → and_then t (room_for out) ≡ t
  room_fits (Err r) h = refl
  room_fits (Ok f) h = room_enough out f h

  -- no string is longer for want of room
  pub room_few : (t : Result Found) → found_length t ≤ 255 → found_length (and_then t (room_for out)) ≤ 255
  room_few (Err r) few = few
  room_few (Ok f) few =
      test (ltb (length out) (length f.text)) (λ h. rw (room_short out f (ltb-true _ _ h)) (omega arith)) (λ h. rw (room_enough out f (ltb-false _ _ h)) few)
