-- What the functions reply, and what the borrowed buffer holds afterwards.
use Rattle.std.specs.Prelude.{ℕ, List, ltb, length, Err, Ok}
use Rattle.std.specs.Prelude.{if◌then◌else◌}
use Rattle.lent_bytes.specs.Buffer.{written}
use Rattle.refusals.specs.declared.Refusal.TheVariants.{BufferTooShort}
use Rattle.refusals.specs.Result.{Result, and_then}
use Rattle.column_listing.specs.Listing.{listed_file}

-- 10 comes last: the buffer is shorter than the text
unfoldable pub room_for_text : List ℕ → List ℕ → Result (List ℕ)
room_for_text out t =
    if ltb (length out) (length t) then Err BufferTooShort
    else Ok t

-- of a file's bytes and a buffer
unfoldable pub listed_in : List ℕ → List ℕ → Result (List ℕ)
listed_in s out = and_then (listed_file s) (room_for_text out)

-- the buffer afterwards: a refusal leaves it as it was
abbrev pub listing_buffer : List ℕ → Result (List ℕ) → List ℕ
listing_buffer out (Err r) = out
listing_buffer out (Ok t) = written t out
