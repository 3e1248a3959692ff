-- The lines of a listing: a line from what is put one after another, and all of them. Assumes nothing.
use mathlib.Core.Path.{◌≡◌, ◌∙◌, ap}
use mathlib.Core.List.{List, [], ◌∷◌, ◌++◌, append_assoc, append-nil}
use Prim.Native.Nat.{ℕ, ◌+◌, ◌<◌}
use native.Mathlib.Omega.{arith}
use lib.ListN.{length, take, get_or}
use Rattle.std.proofs.lemmas.List.{take_more}
use Rattle.lent_bytes.specs.Bytes.{joined}
use Rattle.lent_bytes.proofs.Joined.{joined_append}
use Rattle.lent_text.specs.Text.{decimal, space, newline}
use Rattle.tie_rules.specs.Lanes.{counted}
use Rattle.lane_calls.specs.declared.call.Call.{Call}
use Rattle.column_file.specs.Format.{Observation}
use Rattle.column_calls.specs.declared.columns.ColumnCall.{ColumnCall}
use Rattle.listing_lines.specs.Lines.{depth_of, line_of, text_of}
use Rattle.listing_lines.specs.Tables.{line_with, lines_with}

-- a further field: a space and a number
abbrev pub field : ℕ → List ℕ
field n = space ∷ decimal n

-- of one number more
pub joined_more : (f : ℕ → List ℕ) (ns : List ℕ) (k : ℕ) → k < length ns → joined f (take (k + 1) ns) ≡ joined f (take k ns) ++ f (get_or ns k 0)
joined_more f ns k h =
    ap (joined f) (take_more ns k 0 h) ∙ joined_append f (take k ns) (get_or ns k 0 ∷ []) ∙ ap (λ (l : List ℕ). joined f (take k ns) ++ l) (append-nil (f (get_or ns k 0)))

-- the fields of the counts
abbrev pub counts : List ℕ → List ℕ
counts ns = field (counted ns 0) ++ field (counted ns 1) ++ field (counted ns 2) ++ field (counted ns 3)

-- of four numbers they are all fields
pub counts_joined : (ns : List ℕ) → length ns ≡ 4 → joined field ns ≡ counts ns
counts_joined (a ∷ c ∷ g ∷ t ∷ []) h = simp (append_assoc, append-nil)
counts_joined [] h = absurd (omega arith)
counts_joined (a ∷ []) h = absurd (omega arith)
counts_joined (a ∷ c ∷ []) h = absurd (omega arith)
counts_joined (a ∷ c ∷ g ∷ []) h = absurd (omega arith)
counts_joined (a ∷ c ∷ g ∷ t ∷ x ∷ ns) h = absurd (omega arith)

-- a line: the number, a space, the base, the quality, the depth, the counts, a newline
pub line_puts : (i : ℕ) (call : Call) (ns : List ℕ)
    → decimal i ++ ((space ∷ []) ++ ((call.base ∷ []) ++ (field call.qual.0 ++ (field (depth_of ns) ++ (counts ns ++ (newline ∷ [])))))) ≡ line_of i call ns
unfolding line_of
line_puts i call ns = simp append_assoc

-- the lines of a column and of those after it, by what is called of each
pub lines_next : (called : List Observation → ColumnCall) (i : ℕ) (c : List Observation) (rest cs : List (List Observation)) → cs ≡ c ∷ rest
    → text_of (lines_with called i cs) ≡ line_with i (called c) ++ text_of (lines_with called (i + 1) rest)
unfolding lines_with
lines_next called i c rest cs e = rw e

pub lines_none : (called : List Observation → ColumnCall) (i : ℕ) (cs : List (List Observation)) → cs ≡ [] → text_of (lines_with called i cs) ≡ []
unfolding lines_with
lines_none called i cs e = rw e
