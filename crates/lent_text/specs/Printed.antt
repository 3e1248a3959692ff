-- A text printed into a borrowed buffer.
use Rattle.std.specs.Prelude.{ℕ, ◌+◌, ◌≤◌, min, ◌≡◌, List, length}
use Rattle.std.proofs.lemmas.List.Edits.{sets}
use Rattle.lent_text.specs.declared.Printer.{Printer}

-- the greatest number that a place can be
abbrev pub last_place : ℕ
last_place = 18446744073709551615

-- A text put into a buffer from a place on: the buffer afterwards, and the next place. What lies past the buffer's end is counted and not written; no
-- count goes past the last place, where no buffer reaches.
pub record Put (out : List ℕ) (at : ℕ) (text out' : List ℕ) (at' : ℕ) : Type 0 where
  pub room : length out ≤ last_place
  pub place : at' ≡ min (at + length text) last_place
  pub bytes : out' ≡ sets out at text

-- A printer before and after a text is printed. What lies past the buffer's end is counted and not written; no count goes past the last place, where
-- no buffer reaches.
pub record Printed (old new : Printer) (text : List ℕ) : Type 0 where
  pub buffer : old.out.ghost_name ≡ new.out.ghost_name
  pub room : length old.out.now ≤ last_place
  pub place : new.at ≡ min (old.at + length text) last_place
  pub bytes : new.out.now ≡ sets old.out.now old.at text
