-- What a borrowed buffer holds afterwards.
use Rattle.std.specs.Prelude.{ℕ, ◌+◌, List, ◌++◌, leb, length, take, drop, Option, Some, None}
use Rattle.std.specs.Prelude.{if◌then◌else◌}

-- the bytes and then what was there, or, where it is too short, what it held
unfoldable pub written : List ℕ → List ℕ → List ℕ
written bs out =
    if leb (length bs) (length out) then bs ++ drop (length bs) out
    else out

-- the same from a place on: what stands before it stays too
unfoldable pub written_at : ℕ → List ℕ → List ℕ → List ℕ
written_at at bs out =
    if leb (at + length bs) (length out) then take at out ++ bs ++ drop (at + length bs) out
    else out

-- how many bytes were written: all, or none where the buffer is too short
unfoldable pub length_written : List ℕ → List ℕ → ℕ
length_written bs out =
    if leb (length bs) (length out) then length bs
    else 0

-- the same as an answer: none where the buffer is too short
unfoldable pub written_length : List ℕ → List ℕ → Option ℕ
written_length bs out =
    if leb (length bs) (length out) then Some (length bs)
    else None
