-- What the accepted steps are at each stage, and one step more. Assumes nothing.
use Rattle.std.specs.Prelude.{Err, Ok}
use Rattle.std.specs.List.{list_all}
use mathlib.Core.Path.{◌≡◌, refl}
use mathlib.Core.Bool.{true}
use mathlib.Core.List.{List, [], ◌∷◌, ◌++◌, map, append_assoc, map-append}
use Prim.Native.Nat.{ℕ, ◌+◌, ◌-◌, ◌<◌}
use native.Mathlib.Nat.{zero-add}
use native.Mathlib.Omega.{arith}
use borrow.Author.Tests.{ltb-true, eqb-true}
use lib.ListN.{length, length-append}
use Rattle.words.proofs.Cases.{clash}
use Rattle.refusals.specs.Result.{or_else, first_refused, Verdict}
use Rattle.string_set.specs.StringSet.{read_set}
use Rattle.column_file.specs.declared.settings.Settings.{Settings}
use Rattle.column_file.specs.Format.{Observation}
use Rattle.column_file.specs.Reading.{column_verdict, columns_verdict, File, read_settings, read_column}
use Rattle.column_file.specs.Encoding.{announced_bytes, column_bytes, string_set_bytes}
use Rattle.column_file_laws.specs.Encoding.{is_byte}
use Rattle.column_file_laws.proofs.Both.{Accepting, further}
use Rattle.column_file_laws.proofs.Parts.{parts_both_ways}
use Rattle.column_writer.specs.declared.stages.Stage.{Stage}
use Rattle.column_writer.specs.declared.stages.Stage.TheVariants.{AwaitsSettings, AwaitsColumns, AwaitsFinish, Finished}
use Rattle.column_writer.specs.declared.stages.PartKind.{PartKind}
use Rattle.column_writer.specs.declared.stages.PartKind.TheVariants.{Settings as settings, Column as column, Strings as strings}
use Rattle.column_writer.specs.Stages.{in_turn, awaits_finish, after_settings, after_column, after_strings, next_stage}
use Rattle.column_writer_laws.specs.Steps.{Step, put, finish, column_step, file_steps}
use Rattle.column_writer_laws.proofs.Drafts.{read_part}

-- ---- columns without a faulty one

-- neither refuses
pub or_sound : (v w : Verdict) → or_else v w ≡ Ok tt → (v ≡ Ok tt) × (w ≡ Ok tt)
or_sound (Ok _) w e = (refl, e)
or_sound (Err r) w e = absurd (let z : ◌≡◌ {A = ℕ} 0 1 = cc in omega arith)

-- one more
first_sound : (cs : List (List Observation)) (c : List Observation) → first_refused column_verdict cs ≡ Ok tt → column_verdict c ≡ Ok tt
    → first_refused column_verdict (cs ++ (c ∷ [])) ≡ Ok tt
first_sound [] c h e = rw e
first_sound (d ∷ cs) c h e = let k = or_sound (column_verdict d) (first_refused column_verdict cs) h in rw k.0 (first_sound cs c k.1 e)

columns_more : (cs : List (List Observation)) (c : List Observation) → columns_verdict cs ≡ Ok tt → column_verdict c ≡ Ok tt → columns_verdict (cs ++ (c ∷ [])) ≡ Ok tt
unfolding columns_verdict
columns_more cs c h e = first_sound cs c h e

-- ---- the steps of a stage

-- the settings with the announced number, and these columns
abbrev begun : Settings → ℕ → List (List Observation) → List Step
begun g n cs = put settings (announced_bytes g n) ∷ map column_step cs

-- what the accepted steps were
abbrev pub Shape : Stage → List Step → Type 0
Shape AwaitsSettings es = es ≡ []
Shape (AwaitsColumns g left) es = (cs : List (List Observation)) × (es ≡ begun g (length cs + left) cs) × (columns_verdict cs ≡ Ok tt)
Shape AwaitsFinish es = (f : File) × (es ++ (finish ∷ []) ≡ file_steps f) × (columns_verdict f.columns ≡ Ok tt)
Shape Finished es = (f : File) × (es ≡ file_steps f) × (columns_verdict f.columns ≡ Ok tt)

module _ (part : List ℕ) (es : List Step) (h : list_all is_byte part ≡ true) where
  -- with one step more
  abbrev More : PartKind → Stage → Type 0
  More kind next = Shape next (es ++ (put kind part ∷ []))

  settings_more : es ≡ [] → Accepting (More settings) (after_settings part)
  unfolding after_settings columns_verdict
  settings_more s =
      further (λ a. announced_bytes a.0 a.1 ≡ part) (More settings) (read_settings part) _
      (read_part (λ a. announced_bytes a.0 a.1 ≡ part) (read_settings part) (λ a e. (parts_both_ways.settings.accepted_reads part h a e).0))
      (λ a e. ([], rw (s, zero-add a.1, e), refl))

  column-more : (g : Settings) (left : ℕ) → 0 < left → Shape (AwaitsColumns g left) es → Accepting (More column) (after_column (AwaitsColumns g left) part)
  unfolding after_column
  column-more g left k s =
      further (λ c. (column_bytes c ≡ part) × (column_verdict c ≡ Ok tt)) (More column) (read_column part) _
      (read_part (λ c. (column_bytes c ≡ part) × (column_verdict c ≡ Ok tt)) (read_column part) (λ c e. parts_both_ways.column.accepted_reads part h c e))
      (λ c e.
      let n : length (s.0 ++ (c ∷ [])) + (left - 1) ≡ length s.0 + left = omega (arith, length-append s.0 (c ∷ [])) in
      (s.0 ++ (c ∷ []), rw (s.1, n, map-append column_step s.0 (c ∷ []), e.0), columns_more s.0 c s.2 e.1))

  strings_more : (g : Settings) (left : ℕ) → left ≡ 0 → Shape (AwaitsColumns g left) es → Accepting (More strings) (after_strings part)
  unfolding after_strings
  strings_more g left k s =
      further (λ l. string_set_bytes l ≡ part) (More strings) (read_set part) _
      (read_part (λ l. string_set_bytes l ≡ part) (read_set part) (λ l e. (parts_both_ways.strings.accepted_reads part h l e).0))
      (λ l e.
      let n : length s.0 + left ≡ length s.0 = omega arith in
      (record { settings = g; columns = s.0; strings = l }, rw (s.1, n, e, append_assoc (map column_step s.0) (put strings part ∷ []) (finish ∷ [])), s.2))

  -- a part more, in turn and accepted by the reader
  pub shape_more : (kind : PartKind) (stage : Stage) → in_turn stage kind ≡ true → Shape stage es → Accepting (More kind) (next_stage stage kind part)
  shape_more settings AwaitsSettings t s = settings_more s
  shape_more settings (AwaitsColumns g left) t s = clash refl t
  shape_more settings AwaitsFinish t s = clash refl t
  shape_more settings Finished t s = clash refl t
  shape_more column AwaitsSettings t s = clash refl t
  shape_more column (AwaitsColumns g left) t s = column-more g left (ltb-true 0 left t) s
  shape_more column AwaitsFinish t s = clash refl t
  shape_more column Finished t s = clash refl t
  shape_more strings AwaitsSettings t s = clash refl t
  shape_more strings (AwaitsColumns g left) t s = strings_more g left (eqb-true left 0 t) s
  shape_more strings AwaitsFinish t s = clash refl t
  shape_more strings Finished t s = clash refl t

-- the finish, in turn
pub shape_finished : (stage : Stage) (es : List Step) → awaits_finish stage ≡ true → Shape stage es → Shape Finished (es ++ (finish ∷ []))
shape_finished AwaitsSettings es t s = clash refl t
shape_finished (AwaitsColumns g left) es t s = clash refl t
shape_finished AwaitsFinish es t s = s
shape_finished Finished es t s = clash refl t
