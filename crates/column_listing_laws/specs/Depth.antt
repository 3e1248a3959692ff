-- The depth of a column, by the bytes of its observations.
use Rattle.std.specs.Prelude.{◌≡◌, List, map, ℕ, ◌≤◌, length, Ok, filter}
use Rattle.tie_rules.specs.Lanes.{is_base}
use Rattle.base_builder.specs.Builder.{full_count}
use Rattle.column_file.specs.declared.settings.Settings.{Settings}
use Rattle.column_file.specs.Format.{Observation}
use Rattle.column_file.specs.Reading.{File, read_file}
use Rattle.column_calls.specs.Columns.{builder_of_column, called_column}
use Rattle.listing_lines.specs.Lines.{depth_of}

-- the observations of a base, A, C, G or T in either case
abbrev pub contributing : List Observation → List Observation
contributing c = filter (λ o. is_base o.base) c

pub record DepthLaws (g : Settings) (c : List Observation) : Type 0 where
  -- the depth is how many they are
  pub depth : length c ≤ full_count → depth_of (builder_of_column g c).observations ≡ length (contributing c)
  -- without the others the column has the same call and the same counts
  pub others : called_column g c ≡ called_column g (contributing c)

-- in every accepted file the depth of each column is how many of its observations are of a base
abbrev pub FileDepths : Type 0
FileDepths =
    (s : List ℕ) (f : File) → read_file s ≡ Ok f
    → map (λ c. depth_of (builder_of_column f.settings c).observations) f.columns ≡ map (λ c. length (contributing c)) f.columns
