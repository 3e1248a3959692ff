-- Where the parts of an accepted file lie, and what an answer says of the file. Assumes nothing.
use Rattle.std.specs.Prelude.{Err, Ok}
use mathlib.Core.Path.{◌≡◌, sym, ◌∙◌, ap, subst}
use mathlib.Core.List.{List}
use Prim.Native.Nat.{ℕ, ◌≤◌}
use native.Mathlib.Omega.{arith}
use borrow.Author.Tests.{ltb-true, ltb-false}
use lib.Dec.{ltb}
use lib.ListN.{length}
use Rattle.words.proofs.Cases.{test}
use Rattle.refusals.specs.Result.{judged, Verdict}
use Rattle.string_set.specs.Readers.{alone, longest_file}
use Rattle.column_file.specs.declared.settings.Settings.{Settings}
use Rattle.column_file.specs.Format.{Sections, sections}
use Rattle.column_file.specs.Reading.{settings_of, columns_verdict, File, file_of, read_file}
use Rattle.column_file.specs.Places.{head_size, Layout}
use Rattle.column_file.proofs.SettingsRead.{bytes_of, bytes_length, settings_three}
use Rattle.column_file.proofs.Sections.{came, first_in, Parts, parts}
use Rattle.column_file.proofs.FileRead.{file_long, file_by_lem}

-- a value that no test refused
judged_accepted : {A : Type 0} (v : Verdict) (a b : A) → judged v a ≡ Ok b → a ≡ b
judged_accepted (Ok _) a b e = cc
judged_accepted (Err r) a b e = absurd (cc)

-- what a file's sections say
abbrev said_by : Sections → Settings → File
said_by d g = record { settings = g; columns = d.columns; strings = d.strings }

-- three settings bytes make up the head
parts_layout : (s : List ℕ) (d : Sections) (g : Settings) → length s ≤ longest_file → Parts s d → settings_of d.settings ≡ Ok g → Layout s (said_by d g)
parts_layout s d g fits p e =
    let three : length (bytes_of s) ≡ 3 = ap length (sym p.settings) ∙ settings_three d.settings g e in
    let six : first_in s ≡ head_size = omega (arith, three, bytes_length s p.reaches) in
    record { size = fits; columns = rw six at p.columns; inside = rw six at p.inside; strings = rw six at p.strings }

-- of every accepted file
pub layout : (s : List ℕ) (f : File) → read_file s ≡ Ok f → Layout s f
unfolding file_of
layout s f e =
    test (ltb longest_file (length s))
    (λ t. absurd (cc (file_long s (ltb-true longest_file (length s) t))))
    (λ t.
    let fits : length s ≤ longest_file = ltb-false longest_file (length s) t in
    let a = came (alone (sections s)) file_of f (sym (file_by_lem s fits) ∙ e) in
    let d = a.of in
    let b = came (settings_of d.settings) (λ g. judged (columns_verdict d.columns) (said_by d g)) f a.gave in
    let is = judged_accepted (columns_verdict d.columns) (said_by d b.of) f b.gave in
    subst (Layout s) is (parts_layout s d b.of fits (parts s fits d a.is) b.is))
