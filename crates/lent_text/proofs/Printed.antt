-- Texts printed into a lent buffer, one after another, and what the buffer then holds. Assumes nothing.
use mathlib.Core.Path.{◌≡◌, refl, sym, ◌∙◌, ap}
use mathlib.Core.List.{List, [], ◌++◌, append_assoc, append-nil}
use Prim.Native.Nat.{ℕ, ◌≤◌}
use native.Mathlib.Omega.{arith}
use lib.ListN.{length, take}
use lib.Seq.{sets, length-sets}
use Rattle.lent_bytes.specs.Buffer.{written}
use Rattle.lent_bytes.proofs.Buffer.{fits_written, written_front}
use Rattle.lent_text.specs.declared.Printer.{Printer}
use Rattle.lent_text.specs.Printed.{Put, Printed, last_place}
use Rattle.lent_text.proofs.Put.{put_then}

-- one text, and then another
pub print_then : {p q r : Printer} {t u : List ℕ} → Printed p q t → Printed q r u → Printed p r (t ++ u)
print_then {p} {q} {r} {t} {u} f g =
    let first : Put p.out.now p.at t q.out.now q.at = record { room = f.room; place = f.place; bytes = f.bytes } in
    let second : Put q.out.now q.at u r.out.now r.at = record { room = g.room; place = g.place; bytes = g.bytes } in
    let both = put_then first second in
    record { buffer = f.buffer ∙ g.buffer; room = both.room; place = both.place; bytes = both.bytes }

-- nothing printed
pub print_none : (p : Printer) → length p.out.now ≤ last_place → p.at ≤ last_place → Printed p p []
print_none p h k = record { buffer = refl; room = h; place = omega arith; bytes = refl }

-- the buffer keeps its length
pub printed_length : {p q : Printer} {t : List ℕ} → Printed p q t → length q.out.now ≡ length p.out.now
printed_length {p} {q} {t} f = ap length f.bytes ∙ length-sets p.out.now p.at t

-- the same text in other words
pub printed_as : {p q : Printer} {t u : List ℕ} → Printed p q t → t ≡ u → Printed p q u
printed_as {p} {q} {t} {u} f e = rw e at f

-- a text printed from the start of a buffer that it fits into
pub printed_written : {p q : Printer} {t : List ℕ} → Printed p q t → p.at ≡ 0 → length t ≤ length p.out.now → (q.at ≡ length t) × (q.out.now ≡ written t p.out.now)
printed_written {p} {q} {t} f z h = (omega arith, f.bytes ∙ ap (λ (k : ℕ). sets p.out.now k t) z ∙ fits_written t p.out.now h)

-- and then stands at its front
pub printed_front : {p q : Printer} {t : List ℕ} → Printed p q t → p.at ≡ 0 → length t ≤ length p.out.now → take q.at q.out.now ≡ t
printed_front {p} {q} {t} f z h =
    let w = printed_written f z h in
    rw (w.0, w.1) (written_front t p.out.now h)

-- ---- what is printed so far and what is left

-- a part more is printed
pub one_more : (done part rest left all : List ℕ) → left ≡ part ++ rest → done ++ left ≡ all → done ++ part ++ rest ≡ all
one_more done part rest left all e h = append_assoc done part rest ∙ ap (λ (l : List ℕ). done ++ l) (sym e) ∙ h

-- nothing is left
pub no_more : (done left all : List ℕ) → left ≡ [] → done ++ left ≡ all → done ≡ all
no_more done left all e h = sym (append-nil done) ∙ ap (λ (l : List ℕ). done ++ l) (sym e) ∙ h
