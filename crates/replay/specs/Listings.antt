-- A line of a listing: whether its text is what is printed for its column file.
use Rattle.std.specs.Prelude.{ℕ, ◌+◌, ◌*◌, ◌-◌, Bool, ◌&&◌, List, length, take, drop, replicate, ◌==◌, nat_le, slice_index, Option, Some, None, option_and_then, option_map}
use Rattle.std.specs.Str.{bytes_eq}
use Rattle.lent_bytes.specs.Buffer.{length_written, written}
use Rattle.std.specs.Prelude.{if◌then◌else◌}
use Rattle.column_listing.specs.Listing.{listing_of}
use Rattle.replay.specs.Fields.{field_bytes}

-- the fields of a line: 130 bytes of the file, 514 of the text; of each, 2 of its length
abbrev pub file_field_in : List ℕ → Option (List ℕ)
file_field_in line = field_bytes (take 261 (drop 1 line))

abbrev pub text_field_in : List ℕ → Option (List ℕ)
text_field_in line = field_bytes (take 1029 (drop 262 line))

-- the form of a line: a letter, the fields, a newline
abbrev pub is_listing_line : List ℕ → Bool
is_listing_line line = length line == 1292 && slice_index line 1291 == 10

-- the length that a field's bytes start with, the low byte first
abbrev pub size_of : List ℕ → ℕ
size_of bytes = slice_index bytes 0 + 256 * slice_index bytes 1

-- the bytes of that length after it, where there are so many; those that follow are not looked at
abbrev pub held_in : List ℕ → Option (List ℕ)
held_in bytes =
    if nat_le (size_of bytes) (length bytes - 2) then Some (take (size_of bytes) (drop 2 bytes))
    else None

-- what our listing is printed into
abbrev pub listing_room : List ℕ
listing_room = replicate 512 0

-- whether it then holds the line's text, of a file's listing and that text
abbrev pub is_listing : List ℕ → List ℕ → Bool
is_listing listing text = bytes_eq (take (length_written listing listing_room) (written listing listing_room)) text

-- of a line of a listing
unfoldable pub listing_line : List ℕ → Option Bool
listing_line line =
    if is_listing_line line then
    option_and_then (λ file. option_and_then (λ text. option_and_then (λ f. option_map (is_listing (listing_of f)) (held_in text)) (held_in file)) (text_field_in line)) (file_field_in line)
    else None
