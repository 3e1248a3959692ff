-- What holds of every list of steps, and of each step. Assumes nothing.
use Rattle.std.specs.Prelude.{Err, Ok}
use Rattle.std.specs.List.{list_all}
use mathlib.Core.Path.{◌≡◌, refl, sym, ◌∙◌, ap, subst}
use mathlib.Core.Bool.{true}
use mathlib.Core.List.{List, [], ◌∷◌, ◌++◌, map, append-nil, append_assoc}
use Prim.Native.Nat.{ℕ, ◌+◌, ◌≤◌}
use native.Mathlib.Nat.{add-zero}
use native.Mathlib.Omega.{arith}
use borrow.Author.Tests.{le-leb}
use lib.Dec.{leb}
use lib.ListN.{length, take, drop, length-append, length-drop, take-append-drop}
use lib.Seq.{length-take-le, take-append_seam, drop-append_seam, take_at, drop_at}
use Rattle.words.proofs.Cases.{choice}
use Rattle.lent_bytes.specs.Bytes.{joined}
use Rattle.lent_bytes.specs.Buffer.{written_at}
use Rattle.lent_bytes.proofs.Joined.{joined_append}
use Rattle.refusals.specs.declared.Refusal.{Refusal}
use Rattle.column_file.specs.Format.{Observation}
use Rattle.column_file.specs.Reading.{columns_verdict, File, read_file}
use Rattle.column_file.specs.Encoding.{announced_bytes, column_bytes, string_set_bytes, file_bytes}
use Rattle.column_file_laws.specs.Encoding.{is_byte}
use Rattle.column_file_laws.proofs.Both.{Accepting, both_ways}
use Rattle.column_writer.specs.declared.stages.Stage.{Stage}
use Rattle.column_writer.specs.declared.stages.Stage.TheVariants.{Finished}
use Rattle.column_writer.specs.declared.stages.PartKind.TheVariants.{Strings as strings}
use Rattle.column_writer.specs.declared.writer.Writer.{Writer}
use Rattle.column_writer_laws.specs.Steps.{Step, put, finish, part_of, Draft, new_draft, said_of, after_step, after_steps, draft_after, kept, column_step, file_steps}
use Rattle.column_writer_laws.specs.Laws.{are_bytes, IsFile, Rewritten, OnlyPart, WriterLaws}
use Rattle.column_writer_laws.proofs.Drafts.{draft_at, drafted_length, Put, put_known}
use Rattle.column_writer_laws.proofs.Accepted.{Shape}
use Rattle.column_writer_laws.proofs.LedTo.{finish_known, LedTo, led_to}
use Rattle.column_writer_laws.proofs.Rewriting.{whole, all_pass}

-- ---- a finished file

joined_columns : (cs : List (List Observation)) → joined part_of (map column_step cs) ≡ joined column_bytes cs
joined_columns [] = refl
joined_columns (c ∷ cs) = rw (joined_columns cs)

-- the bytes of the steps that write a file are the file's
joined_steps : (f : File) → joined part_of (file_steps f) ≡ file_bytes f
joined_steps f =
    let a = announced_bytes f.settings (length f.columns) in
    let j = joined column_bytes f.columns in
    let s = string_set_bytes f.strings in
    rw (joined_append part_of (map column_step f.columns) (put strings s ∷ finish ∷ []), joined_columns f.columns, append-nil s)
    (sym (append_assoc a j s) ∙ whole [] f)

module _ (es : List Step) (out : List ℕ) (d : Draft) (h : LedTo out (kept es (new_draft out)) d) (f : File)
    (steps : kept es (new_draft out) ≡ file_steps f) (sound : columns_verdict f.columns ≡ Ok tt) where
  is_file : IsFile es out d
  is_file =
      let bs = joined part_of (kept es (new_draft out)) in
      let same : bs ≡ file_bytes f = ap (joined part_of) steps ∙ joined_steps f in
      record {
        says = f;
        steps = steps;
        reads = rw (h.draft, take-append_seam bs (drop (length bs) out)) (both_ways.never_refused bs f (record { bytes = sym same; size = h.short; qualities = sound }));
        beyond = rw (h.draft, drop-append_seam bs (drop (length bs) out));
        as_long = rw h.draft (drafted_length bs out h.room);
      }

finished_reads : (es : List Step) → are_bytes es ≡ true → (out : List ℕ) → (draft_after es out).writer.stage ≡ Finished → IsFile es out (draft_after es out)
finished_reads es b out t =
    let h = led_to out es b in
    let stage : h.stage ≡ Finished = sym (ap (λ (d : Draft). d.writer.stage) h.draft) ∙ t in
    let s = subst (λ (x : Stage). Shape x (kept es (new_draft out))) stage h.shape in
    is_file es out (draft_after es out) h s.0 s.1 s.2

-- ---- a file written again

rewritten : (s : List ℕ) → list_all is_byte s ≡ true → (f : File) → read_file s ≡ Ok f → (out : List ℕ) → length s ≤ length out → Rewritten s f out
rewritten s b f e out room =
    let i = both_ways.accepted_reads s b f e in
    let p = all_pass out f i.qualities (rw i.bytes i.size) (rw i.bytes room) in
    let none = append-nil (file_steps f) in
    let all = subst (λ (l : List Step). kept l (new_draft out) ≡ file_steps f) none (p.all [] ∙ none) in
    let to = subst (λ (l : List Step). after_steps l (new_draft out) ≡ draft_at Finished (file_bytes f) out) none (p.to []) ∙ ap (λ (bs : List ℕ). draft_at Finished bs out) i.bytes in
    record {
      all = all;
      stage = ap (λ (d : Draft). d.writer.stage) to;
      written = ap (λ (d : Draft). d.writer.written) to;
      bytes = ap (λ (d : Draft). d.file) to;
    }

-- ---- a step

only_part : (at : ℕ) (part before : List ℕ) → at + length part ≤ length before → OnlyPart at part before (written_at at part before)
unfolding written_at
only_part at part before h =
    let rest = drop (at + length part) before in
    let front = length-take-le at before (omega arith) in
    let fits = le-leb (at + length part) (length before) h in
    let split = append_assoc (take at before) part rest in
    let size : length (take at before ++ part) ≡ at + length part = length-append (take at before) part ∙ ap (λ (n : ℕ). n + length part) front in
    rw fits
    (record {
      as_long = rw (length-append (take at before ++ part) rest, size, length-drop (at + length part) before) (omega arith);
      front = rw split (take_at (take at before) (part ++ rest) at front);
      there = rw (split, drop_at (take at before) (part ++ rest) at front) (take-append_seam part rest);
      beyond = drop_at (take at before ++ part) rest (at + length part) size;
    })

-- nothing is put anywhere
pub nothing_put : (at : ℕ) (before : List ℕ) → written_at at [] before ≡ before
unfolding written_at
nothing_put at before =
    choice (λ l. l ≡ before) (leb (at + 0) (length before)) _ _
    (λ e. rw (append-nil (take at before), add-zero at) (take-append-drop at before))
    (λ e. refl)

only_its_part : (e : Step) (d : Draft) (w : Writer) → said_of e d ≡ Ok w
    → (w.written ≡ d.writer.written + length (part_of e)) × OnlyPart d.writer.written (part_of e) d.file (after_step e d).file
only_its_part (put kind part) d w q =
    let k : Put d.writer kind part d.file w = subst (Accepting (Put d.writer kind part d.file)) q (put_known d.writer kind part d.file) in
    (k.written, rw q (only_part d.writer.written part d.file k.room))
only_its_part finish d w q =
    let k = subst (Accepting _) q (finish_known d.writer) in
    let at = d.writer.written in (
      ap (λ (v : Writer). v.written) k.1 ∙ sym (add-zero at),
      rw (q, nothing_put at d.file) (record { as_long = refl; front = refl; there = refl; beyond = refl }),
    )

refused_nothing : (e : Step) (d : Draft) (r : Refusal) → said_of e d ≡ Err r → after_step e d ≡ d
refused_nothing e d r q = rw q

pub writer_laws : WriterLaws
writer_laws = record { finished_reads = finished_reads; rewrites = rewritten; refused_nothing = refused_nothing; only_its_part = only_its_part }
