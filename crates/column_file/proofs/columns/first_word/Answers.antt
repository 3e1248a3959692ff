-- `first_word`: two bytes, or fewer. Assumes nothing.
use native.Mathlib.Omega.{arith}
use Rattle.string_set.proofs.Readers.{word_end}
use Rattle.column_file.proofs.Front.{word_front}
use Rattle.column_file.proofs.columns.first_word.Goals as goal

pub returns-in_err-count : goal.returns-in_err-count
returns-in_err-count c = rw c.from_residual.ensures (word_end c.args.bytes.now 0 (omega (arith, c.in_err-count.ensures.cases)))

pub returns : goal.returns
returns c =
    let h = c.in_ok-count.ensures.cases in
    (rw (c.from.ensures, c.from_le_bytes.ensures, h.0, h.1) (word_front c.args.bytes.now (omega arith)), omega arith)
