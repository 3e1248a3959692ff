-- The steps that write what a file says are all accepted, where there is room, and lead to its bytes. Assumes nothing.
use Rattle.std.specs.Prelude.{Ok}
use mathlib.Core.Path.{◌≡◌, refl, sym, ◌∙◌, ap}
use mathlib.Core.Bool.{true}
use mathlib.Core.List.{List, [], ◌∷◌, ◌++◌, map, append-nil, append_assoc}
use Prim.Native.Nat.{ℕ, suc, ◌-◌, ◌≤◌}
use native.Mathlib.Omega.{arith}
use borrow.Author.Tests.{lt-ltb}
use lib.ListN.{length, length-append}
use Rattle.lent_bytes.specs.Bytes.{joined}
use Rattle.refusals.specs.Result.{Result, first_refused}
use Rattle.string_set.specs.Readers.{longest_file}
use Rattle.column_file.specs.declared.settings.Settings.{Settings}
use Rattle.column_file.specs.Format.{Observation}
use Rattle.column_file.specs.Reading.{column_verdict, columns_verdict, File}
use Rattle.column_file.specs.Encoding.{announced_bytes, column_bytes, columns_bytes, string_set_bytes, file_bytes}
use Rattle.column_file_laws.proofs.Parts.{parts_both_ways}
use Rattle.column_writer.specs.declared.stages.Stage.{Stage}
use Rattle.column_writer.specs.declared.stages.Stage.TheVariants.{AwaitsSettings, AwaitsColumns, AwaitsFinish, Finished}
use Rattle.column_writer.specs.declared.stages.PartKind.{PartKind}
use Rattle.column_writer.specs.declared.stages.PartKind.TheVariants.{Settings as settings, Column as column, Strings as strings}
use Rattle.column_writer.specs.declared.writer.Writer.{Writer}
use Rattle.column_writer.specs.Stages.{in_turn, after_settings, after_column, after_strings, next_stage}
use Rattle.column_writer.specs.Writing.{finish_of}
use Rattle.column_writer_laws.specs.Steps.{Step, put, finish, Draft, new_draft, said_of, after_step, after_steps, kept_by, kept, column_step, file_steps}
use Rattle.column_writer_laws.proofs.Drafts.{draft_at, part-more, put_said, put_steps}
use Rattle.column_writer_laws.proofs.Accepted.{or_sound}

-- steps that are all accepted lead from one draft to another, whatever comes after them
pub record Passes (steps : List Step) (d e : Draft) : Type 0 where
  pub all : (rest : List Step) → kept (steps ++ rest) d ≡ steps ++ kept rest e
  pub to : (rest : List Step) → after_steps (steps ++ rest) d ≡ after_steps rest e

kept_first : (s : Step) (q : Result Writer) (l : List Step) (v : Writer) → q ≡ Ok v → kept_by s q l ≡ s ∷ l
kept_first s q l v e = rw e

one_passes : (s : Step) (d e : Draft) (v : Writer) → said_of s d ≡ Ok v → after_step s d ≡ e → Passes (s ∷ []) d e
one_passes s d e v q t = record {
  all = λ rest. kept_first s (said_of s d) (kept rest (after_step s d)) v q ∙ ap (λ (x : Draft). s ∷ kept rest x) t;
  to = λ rest. ap (λ (x : Draft). after_steps rest x) t;
}

then_pass : (a b : List Step) (d e f : Draft) → Passes a d e → Passes b e f → Passes (a ++ b) d f
then_pass a b d e f p q = record {
  all = λ rest. rw (append_assoc a b rest) (p.all (b ++ rest) ∙ ap (λ (l : List Step). a ++ l) (q.all rest) ∙ sym (append_assoc a b (kept rest f)));
  to = λ rest. rw (append_assoc a b rest) (p.to (b ++ rest) ∙ q.to rest);
}

module _ (out : List ℕ) where
  put_passes : (stage next : Stage) (kind : PartKind) (part bs : List ℕ) → in_turn stage kind ≡ true → next_stage stage kind part ≡ Ok next
      → length (bs ++ part) ≤ longest_file → length (bs ++ part) ≤ length out
      → Passes (put kind part ∷ []) (draft_at stage bs out) (draft_at next (bs ++ part) out)
  put_passes stage next kind part bs t n short room =
      one_passes (put kind part) (draft_at stage bs out) (draft_at next (bs ++ part) out) _
      (put_said stage next kind part bs out t n short room) (put_steps stage next kind part bs out t n short room)

  -- the finish
  finish_passes : (bs : List ℕ) → length bs ≤ length out → Passes (finish ∷ []) (draft_at AwaitsFinish bs out) (draft_at Finished bs out)
  unfolding finish_of
  finish_passes bs room =
      let same : length (bs ++ []) ≤ length out = rw (append-nil bs) room in
      one_passes finish (draft_at AwaitsFinish bs out) (draft_at Finished bs out) _ refl (rw (part-more bs [] out same, append-nil bs))

  -- a column
  column_read : (g : Settings) (left : ℕ) (c : List Observation) → length (column_bytes c) ≤ longest_file → column_verdict c ≡ Ok tt
      → next_stage (AwaitsColumns g (suc left)) column (column_bytes c) ≡ Ok (AwaitsColumns g left)
  unfolding after_column
  column_read g left c short sound =
      let less : suc left - 1 ≡ left = omega arith in
      rw (parts_both_ways.column.never_refused c short sound, less)

  -- no column is faulty: neither the first nor the others
  sound_parts : (c : List Observation) (cs : List (List Observation)) → columns_verdict (c ∷ cs) ≡ Ok tt → (column_verdict c ≡ Ok tt) × (columns_verdict cs ≡ Ok tt)
  unfolding columns_verdict
  sound_parts c cs h = or_sound (column_verdict c) (first_refused column_verdict cs) h

  columns_pass : (g : Settings) (cs : List (List Observation)) (bs : List ℕ) → columns_verdict cs ≡ Ok tt
      → length (bs ++ joined column_bytes cs) ≤ longest_file → length (bs ++ joined column_bytes cs) ≤ length out
      → Passes (map column_step cs) (draft_at (AwaitsColumns g (length cs)) bs out) (draft_at (AwaitsColumns g 0) (bs ++ joined column_bytes cs) out)
  columns_pass g [] bs sound short room = rw (append-nil bs) (record { all = λ rest. refl; to = λ rest. refl })
  columns_pass g (c ∷ cs) bs sound short room =
      let k = sound_parts c cs sound in
      let b = column_bytes c in
      let j = joined column_bytes cs in
      let size = length-append bs (b ++ j) in
      let inner = length-append b j in
      let first = length-append bs b in
      let same = append_assoc bs b j in
      let turn = lt-ltb 0 (suc (length cs)) (omega arith) in
      let one =
      put_passes (AwaitsColumns g (suc (length cs))) (AwaitsColumns g (length cs)) column b bs turn
      (column_read g (length cs) c (omega arith) k.0) (omega arith) (omega arith) in
      let rest = columns_pass g cs (bs ++ b) k.1 (rw same short) (rw same room) in
      then_pass (column_step c ∷ []) (map column_step cs) _ _ _ one (rw same at rest)

  -- the bytes of all parts
  pub whole : (f : File) → (announced_bytes f.settings (length f.columns) ++ joined column_bytes f.columns) ++ string_set_bytes f.strings ≡ file_bytes f
  unfolding file_bytes columns_bytes
  whole f = simp append_assoc

  settings_read : (g : Settings) (n : ℕ) → length (announced_bytes g n) ≤ longest_file → next_stage AwaitsSettings settings (announced_bytes g n) ≡ Ok (AwaitsColumns g n)
  unfolding after_settings
  settings_read g n short = rw (parts_both_ways.settings.never_refused (g, n) short refl)

  strings_read : (g : Settings) (l : List (List ℕ)) → length (string_set_bytes l) ≤ longest_file → next_stage (AwaitsColumns g 0) strings (string_set_bytes l) ≡ Ok AwaitsFinish
  unfolding after_strings
  strings_read g l short = rw (parts_both_ways.strings.never_refused l short refl)

  pub all_pass : (f : File) → columns_verdict f.columns ≡ Ok tt → length (file_bytes f) ≤ longest_file → length (file_bytes f) ≤ length out
      → Passes (file_steps f) (new_draft out) (draft_at Finished (file_bytes f) out)
  all_pass f sound short room =
      let g = f.settings in
      let n = length f.columns in
      let a = announced_bytes g n in
      let j = joined column_bytes f.columns in
      let s = string_set_bytes f.strings in
      let all = ap length (whole f) in
      let last = length-append (a ++ j) s in
      let first = length-append a j in
      let set =
      put_passes AwaitsSettings (AwaitsColumns g n) settings a [] refl (settings_read g n (omega arith)) (omega arith) (omega arith) in
      let columns = columns_pass g f.columns a sound (omega arith) (omega arith) in
      let strs = put_passes (AwaitsColumns g 0) AwaitsFinish strings s (a ++ j) refl (strings_read g f.strings (omega arith)) (omega arith) (omega arith) in
      let end = finish_passes ((a ++ j) ++ s) (omega arith) in
      rw (← (whole f))
      (then_pass (put settings a ∷ []) _ _ _ _ set
      (then_pass (map column_step f.columns) _ _ _ _ columns
      (then_pass (put strings s ∷ []) (finish ∷ []) _ _ _ strs end)))
