-- The rule of the table of ln: each inverse's head is its leading 9 digits, its tail is the rest, and the offset is how far the middle of its part
-- times the inverse lies above 1. One test, computed over the whole table. Assumes nothing.
use Prim.Native.Nat.{ℕ, ◌+◌, ◌*◌, ◌<◌}
use mathlib.Core.Bool.{Bool, ◌&&◌}
use lib.Dec.{T}
use lib.Ieee.{mul, sub, div, of_bits, to_bits, of_int}
use lib.ListN.{get_or}
use Rattle.float.specs.Ops.{◌⊕◌, ◌⊖◌, ◌⊗◌, ◌⊘◌, bits, whole, one}
use Rattle.float.specs.Claims.{same}
use Rattle.words.specs.Claims.{every_from}
use Rattle.words.proofs.Claims.{below}
use Rattle.elementary_tables.specs.LnTable.{inverses, ln_row_of}

-- the head is what Veltkamp's splitting by 2^44 + 1 gives; the middle of part i is (257 + 2·i)/256
unfoldable pub in_two_parts : ℕ → Bool
in_two_parts i =
    let e = ln_row_of i in
    let inverse = bits (get_or inverses i 0) in
    let t = bits 0x42b0_0000_0000_0100 ⊗ inverse in
    let middle = whole (257 + 2 * i) ⊘ whole 256 in
    same e.head (t ⊖ (t ⊖ inverse)) && same e.tail (inverse ⊖ e.head)
    && same e.offset (middle ⊗ e.head ⊖ one ⊕ middle ⊗ e.tail)

table : T (every_from in_two_parts 0 128)
unfolding mul sub div of_bits to_bits of_int same every_from ln_row_of in_two_parts
table = tt

pub in_two_parts_lem : (i : ℕ) → i < 128 → T (in_two_parts i)
in_two_parts_lem i h = below in_two_parts 128 table i h
