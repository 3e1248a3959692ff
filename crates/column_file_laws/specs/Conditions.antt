-- Conditions 1 to 4 of a file, each by itself.
use Rattle.std.specs.List.{list_any}
use Rattle.std.specs.Prelude.{◌≡◌, Bool, true, false, ◌&&◌, List, ℕ, ◌≤◌, ◌<◌, leb, eqb, length, Err, Ok}
use Rattle.words.specs.Lists.{byte_at}
use Rattle.refusals.specs.declared.Refusal.TheVariants.{CutOff}
use Rattle.refusals.specs.Refusals.{number_in}
use Rattle.string_set.specs.Readers.{alone, longest_file}
use Rattle.column_file.specs.Format.{Observation, Sections, sections}
use Rattle.column_file.specs.Reading.{read_file}

-- three settings, the last a tie rule
abbrev pub is_settings : List ℕ → Bool
is_settings bs = eqb (length bs) 3 && leb (byte_at bs 2) 1

-- a quality of 255, beside any base
abbrev pub is_absent : Observation → Bool
is_absent o = eqb o.quality 255

pub record FileConditions (s : List ℕ) : Type 0 where
  -- 1: a file over 65,536 bytes
  pub too_long : longest_file < length s → number_in (read_file s) ≡ 1
  -- 2: else, where its bytes are no three sections up to the last
  pub cut_off : length s ≤ longest_file → alone (sections s) ≡ Err CutOff → number_in (read_file s) ≡ 2
  -- 3: else, where the settings are not three or the rule is above 1
  pub bad_settings : length s ≤ longest_file → (f : Sections) → alone (sections s) ≡ Ok f → is_settings f.settings ≡ false → number_in (read_file s) ≡ 3
  -- 4: else, where a quality is 255
  pub absent_quality_lem : length s ≤ longest_file → (f : Sections) → alone (sections s) ≡ Ok f → is_settings f.settings ≡ true
      → list_any (list_any is_absent) f.columns ≡ true → number_in (read_file s) ≡ 4
  -- and none else
  pub accepted_else : length s ≤ longest_file → (f : Sections) → alone (sections s) ≡ Ok f → is_settings f.settings ≡ true
      → list_any (list_any is_absent) f.columns ≡ false → number_in (read_file s) ≡ 0
