-- Conditions 1 to 4, each by itself. Assumes nothing.
use Rattle.std.specs.List.{list_any}
use mathlib.Core.Path.{◌≡◌, refl, ◌∙◌, ap}
use mathlib.Core.Bool.{Bool, true, false, ◌||◌}
use mathlib.Core.List.{List, [], ◌∷◌}
use Prim.Native.Nat.{ℕ, ◌≤◌, ◌<◌}
use borrow.Author.Tests.{lt-ltb, le-ltb}
use lib.ListN.{length}
use Rattle.refusals.specs.declared.Refusal.TheVariants.{CutOff, AbsentQuality}
use Rattle.refusals.specs.Refusals.{number_in}
use Rattle.refusals.specs.Result.{or_else, first_refused, Verdict}
use Rattle.std.specs.Prelude.{if◌then◌else◌, Err, Ok}
use Rattle.string_set.specs.Readers.{alone, longest_file}
use Rattle.column_file.specs.Format.{Observation, Sections, sections}
use Rattle.column_file.specs.Reading.{settings_of, observation_verdict, column_verdict, columns_verdict, file_of, read_file}
use Rattle.column_file_laws.specs.Conditions.{is_settings, is_absent, FileConditions}

-- 4 by a test
abbrev pub absent_if : Bool → Verdict
absent_if b =
    if b then Err AbsentQuality
    else Ok tt

either : (a b : Bool) → or_else (absent_if a) (absent_if b) ≡ absent_if (a || b)
either true b = refl
either false b = refl

-- of a list whose parts are refused by a test
first_absent : {A : Type 0} (verdict : A → Verdict) (p : A → Bool) → ((a : A) → verdict a ≡ absent_if (p a)) → (l : List A) → first_refused verdict l ≡ absent_if (list_any p l)
first_absent verdict p h [] = refl
first_absent verdict p h (a ∷ l) = rw (h a, first_absent verdict p h l) (either (p a) (list_any p l))

pub column_absent : (c : List Observation) → column_verdict c ≡ absent_if (list_any is_absent c)
unfolding column_verdict observation_verdict
column_absent c = first_absent observation_verdict is_absent (λ o. refl) c

columns_absent : (cs : List (List Observation)) → columns_verdict cs ≡ absent_if (list_any (list_any is_absent) cs)
unfolding columns_verdict
columns_absent cs = first_absent column_verdict (list_any is_absent) column_absent cs

module _ (s : List ℕ) (h : length s ≤ longest_file) (f : Sections) (e : alone (sections s) ≡ Ok f) where
  by_sections : read_file s ≡ file_of f
  unfolding read_file
  by_sections = rw (le-ltb longest_file (length s) h, e)

  three : is_settings f.settings ≡ false → number_in (file_of f) ≡ 3
  unfolding file_of settings_of
  three k = rw k

  four : is_settings f.settings ≡ true → list_any (list_any is_absent) f.columns ≡ true → number_in (file_of f) ≡ 4
  unfolding file_of settings_of
  four k a = rw (k, columns_absent f.columns, a)

  none : is_settings f.settings ≡ true → list_any (list_any is_absent) f.columns ≡ false → number_in (file_of f) ≡ 0
  unfolding file_of settings_of
  none k a = rw (k, columns_absent f.columns, a)

one : (s : List ℕ) → longest_file < length s → number_in (read_file s) ≡ 1
unfolding read_file
one s h = rw (lt-ltb longest_file (length s) h)

two : (s : List ℕ) → length s ≤ longest_file → alone (sections s) ≡ Err CutOff → number_in (read_file s) ≡ 2
unfolding read_file
two s h e = rw (le-ltb longest_file (length s) h, e)

pub conditions : (s : List ℕ) → FileConditions s
conditions s =
    record {
      too_long = one s;
      cut_off = two s;
      bad_settings = λ h f e k. ap number_in (by_sections s h f e) ∙ three s h f e k;
      absent_quality_lem = λ h f e k a. ap number_in (by_sections s h f e) ∙ four s h f e k a;
      accepted_else = λ h f e k a. ap number_in (by_sections s h f e) ∙ none s h f e k a;
    }
