-- `numbers`: a number is the one before those that are read. Assumes nothing.
use Rattle.std.proofs.Common.{◌≡◌, ℕ, suc, ◌+◌, ◌-◌, List, Some, take, drop, set, sym, ◌∙◌, arith}
use Rattle.replay.specs.Lines.{field_of, field_start, fields_from}
use Rattle.replay.proofs.lines.numbers.Goals as goal

goes_on : (line ns : List ℕ) {m n : ℕ} (k : ℕ) → m ≡ suc k → field_of (take 17 (drop (field_start k) line)) ≡ Some n → fields_from m line ns ≡ fields_from k line (set ns k n)
unfolding fields_from
goes_on line ns k e h = rw (e, h)

pub loop-k-preserved : goal.loop-k-preserved
loop-k-preserved c =
    let start = field_start (c.loop-k.k - 1) in
    let whole : start + 17 - start ≡ 17 = omega arith in
    let read = rw whole at c.in_ok-numbers.ensures in
    sym (goes_on _ c.loop-k.numbers (c.loop-k.k - 1) (omega arith) (sym read)) ∙ c.loop-k.invariant
