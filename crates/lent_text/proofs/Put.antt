-- Texts put into a buffer, one after another. Assumes nothing.
use mathlib.Core.Path.{◌≡◌, refl, sym, ◌∙◌, ap}
use mathlib.Core.List.{List, [], ◌∷◌, ◌++◌}
use Prim.Native.Nat.{ℕ, suc, ◌+◌, ◌≤◌, min}
use native.Mathlib.Nat.{min-eq_left}
use native.Mathlib.Omega.{arith}
use borrow.Author.Tests.{leb-true, leb-false}
use lib.Dec.{leb}
use lib.ListN.{length, length-append}
use lib.Seq.{sets, set_out, length-sets}
use Rattle.words.proofs.Cases.{test}
use Rattle.lent_bytes.proofs.Buffer.{sets_append}
use Rattle.lent_text.specs.Printed.{Put, last_place}

-- past the end nothing is set
pub sets_out : (l : List ℕ) (i : ℕ) (t : List ℕ) → length l ≤ i → sets l i t ≡ l
sets_out l i [] h = refl
sets_out l i (x ∷ t) h = rw (set_out l i x h) (sets_out l (suc i) t (omega arith))

-- a count that stops at the last place sets the same as one that goes on
pub sets_capped : (l : List ℕ) (i : ℕ) (t : List ℕ) → length l ≤ last_place → sets l (min i last_place) t ≡ sets l i t
sets_capped l i t h =
    test
    (leb i last_place)
    (λ e. rw (min-eq_left (leb-true i last_place e)))
    (λ e. let f = leb-false i last_place e in sets_out l (min i last_place) t (omega arith) ∙ sym (sets_out l i t (omega arith)))

-- one text, and then another
pub put_then : {o o1 o2 t u : List ℕ} {a w1 w2 : ℕ} → Put o a t o1 w1 → Put o1 w1 u o2 w2 → Put o a (t ++ u) o2 w2
put_then {o} {o1} {o2} {t} {u} {a} {w1} {w2} p q =
    let n = length-sets o a t in
    record {
      room = p.room;
      place = rw (length-append t u) (omega arith);
      bytes =
          q.bytes
          ∙ ap (λ (l : List ℕ). sets l w1 u) p.bytes
          ∙ ap (λ (k : ℕ). sets (sets o a t) k u) p.place
          ∙ sets_capped (sets o a t) (a + length t) u (omega arith)
          ∙ sets_append o a t u;
    }

-- nothing put
pub put_none : (o : List ℕ) (a : ℕ) → length o ≤ last_place → a ≤ last_place → Put o a [] o a
put_none o a h k = record { room = h; place = omega arith; bytes = refl }

-- the same text in other words
pub put_as : {o o1 t u : List ℕ} {a w1 : ℕ} → Put o a t o1 w1 → t ≡ u → Put o a u o1 w1
put_as {o} {o1} {t} {u} {a} {w1} p e = rw e at p
