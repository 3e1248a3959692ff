-- Bytes set one after another, and what a buffer then holds that they fit into, or don't. Assumes nothing.
use mathlib.Core.Path.{◌≡◌, refl, sym, ◌∙◌, ap}
use mathlib.Core.List.{List, [], ◌∷◌, ◌++◌}
use Prim.Native.Nat.{ℕ, suc, ◌+◌, ◌≤◌, ◌<◌}
use native.Mathlib.Nat.{add-zero, zero-add}
use native.Mathlib.Omega.{arith}
use borrow.Author.Tests.{le-leb, lt-leb}
use mathlib.Core.Bool.{Bool, true, false}
use lib.Dec.{leb}
use Rattle.std.specs.Prelude.{Option, Some, None, if◌then◌else◌}
use Rattle.std.specs.Bool.{then_some}
use Rattle.std.proofs.lemmas.List.{take_more, length-take-le}
use lib.ListN.{length, take, drop, set, get_or, length-append}
use lib.Seq.{sets, sets-eq, length-sets, take-append_seam}
use Rattle.lent_bytes.specs.Buffer.{length_written, written_length, written, written_at}

-- bytes after bytes
pub sets_append : (l : List ℕ) (i : ℕ) (a b : List ℕ) → sets (sets l i a) (i + length a) b ≡ sets l i (a ++ b)
sets_append l i [] b = rw (add-zero i)
sets_append l i (x ∷ a) b =
    let e : i + suc (length a) ≡ suc i + length a = omega arith in
    ap (λ (k : ℕ). sets (sets (set l i x) (suc i) a) k b) e ∙ sets_append (set l i x) (suc i) a b

-- the bytes before one of them, and then it
pub sets_take : (l : List ℕ) (at i : ℕ) (bs : List ℕ) → i < length bs → set (sets l at (take i bs)) (at + i) (get_or bs i 0) ≡ sets l at (take (i + 1) bs)
sets_take l at i bs h =
    let x = get_or bs i 0 in
    ap (λ (k : ℕ). set (sets l at (take i bs)) (at + k) x) (sym (length-take-le i bs (omega arith)))
    ∙ sets_append l at (take i bs) (x ∷ [])
    ∙ ap (λ (t : List ℕ). sets l at t) (sym (take_more bs i 0 h))

-- bytes from a place on
module _ (at : ℕ) (bs out : List ℕ) where
  pub fits_written_at : at + length bs ≤ length out → sets out at bs ≡ written_at at bs out
  unfolding written_at
  fits_written_at h = rw (le-leb (at + length bs) (length out) h) (sets-eq bs out at h)

  pub short_written_at : length out < at + length bs → out ≡ written_at at bs out
  unfolding written_at
  short_written_at h = rw (lt-leb (at + length bs) (length out) h)

module _ (bs out : List ℕ) where
  -- at the front
  pub written_at_0 : written_at 0 bs out ≡ written bs out
  unfolding written written_at
  written_at_0 = rw (zero-add (length bs))

  pub fits_written : length bs ≤ length out → sets out 0 bs ≡ written bs out
  unfolding written
  fits_written h = rw (le-leb (length bs) (length out) h) (sets-eq bs out 0 (omega arith) ∙ ap (λ (i : ℕ). bs ++ drop i out) (zero-add (length bs)))

  pub short_written : length out < length bs → out ≡ written bs out
  unfolding written
  short_written h = rw (lt-leb (length bs) (length out) h)

  pub fits_replied : length bs ≤ length out → length bs ≡ length_written bs out
  unfolding length_written
  fits_replied h = rw (le-leb (length bs) (length out) h)

  pub short_replied : length out < length bs → 0 ≡ length_written bs out
  unfolding length_written
  short_replied h = rw (lt-leb (length bs) (length out) h)

  -- at its front stand the bytes
  pub written_front : length bs ≤ length out → take (length bs) (written bs out) ≡ bs
  unfolding written
  written_front h = rw (le-leb (length bs) (length out) h) (take-append_seam bs (drop (length bs) out))

-- bytes and then others after them
pub written_both : (a b out : List ℕ) → length (a ++ b) ≤ length out → written_at (length a) b (written a out) ≡ written (a ++ b) out
written_both a b out h =
    let l = length-append a b in
    let e = fits_written a out (omega arith) in
    let m : length (written a out) ≡ length out = ap length (sym e) ∙ length-sets out 0 a in
    sym (fits_written_at (length a) b (written a out) (omega arith))
    ∙ ap (λ (o : List ℕ). sets o (length a) b) (sym e)
    ∙ rw (zero-add (length a)) at (sets_append out 0 a b)
    ∙ fits_written (a ++ b) out h

some_where : (b : Bool) (n : ℕ) → then_some b n ≡ (if b then Some n else None)
some_where true n = refl
some_where false n = refl

-- n bytes bs, which are a text, were put at the front of a buffer, or not: how long the text is, if it was put, and what the buffer then holds
pub sent_length : {t bs : List ℕ} {n : ℕ} {b : Bool} {r : Option ℕ} (out : List ℕ) → bs ≡ t → n ≡ length t → b ≡ leb (length bs) (length out) → r ≡ then_some b n → r ≡ written_length t out
unfolding written_length
sent_length {t} {bs} {n} {b} {r} out e k h q = q ∙ rw (h, e, k) (some_where (leb (length t) (length out)) (length t))

pub sent_bytes : {t bs out' : List ℕ} (out : List ℕ) → bs ≡ t → out' ≡ written bs out → out' ≡ written t out
sent_bytes out e w = w ∙ ap (λ (l : List ℕ). written l out) e
