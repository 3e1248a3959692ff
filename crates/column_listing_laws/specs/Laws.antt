-- What holds of the lines of every file, and how long its listing is.
use Rattle.std.specs.List.{list_any}
use Rattle.std.specs.Prelude.{◌≡◌, Bool, true, false, List, [], ◌∷◌, ℕ, ◌+◌, ◌≤◌, ◌<◌, eqb, length, get_or}
use Rattle.std.specs.Prelude.{if◌then◌else◌}
use Rattle.words.specs.Lists.{last_or, is_empty}
use Rattle.lent_text.specs.Text.{newline}
use Rattle.umi_groups.specs.Found.{Found}
use Rattle.column_file.specs.Reading.{File}
use Rattle.column_listing.specs.Listing.{lines_of, listing_of}

-- the newline
abbrev pub is_newline : ℕ → Bool
is_newline x = eqb x newline

-- one line: a newline is its last byte, and none stands before
abbrev pub is_line : List ℕ → Bool
is_line [] = false
is_line (x ∷ l) =
    if is_newline x then is_empty l
    else is_line l

-- line k, counted from 0
abbrev pub line_at : File → Found → ℕ → List ℕ
line_at f u k = get_or (lines_of f u) k []

pub record OneLineEach (f : File) (u : Found) : Type 0 where
  -- the header, a line for each column, and the line of the strings
  pub lines : length (lines_of f u) ≡ length f.columns + 2
  -- each but the last is one line
  pub one_line : (k : ℕ) → k ≤ length f.columns → is_line (line_at f u k) ≡ true
  -- the last ends in a newline
  pub ends : last_or 0 (line_at f u (length f.columns + 1)) ≡ newline
  -- and is one line unless the consensus itself has a newline, whose bytes are free
  pub last_line : list_any is_newline u.text ≡ false → is_line (line_at f u (length f.columns + 1)) ≡ true

-- this number of bytes holds every listing
abbrev pub longest_listing : ℕ
longest_listing = 2400000

-- of any list of numbers, a file or not
pub record ListingFits (s : List ℕ) : Type 0 where
  -- a refused file has its line too
  pub some : 0 < length (listing_of s)
  pub most : length (listing_of s) ≤ longest_listing
