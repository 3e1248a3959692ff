-- `numbers`: the fields that are left, after those that are read, give the numbers of all. Assumes nothing.
use Rattle.std.proofs.Common.{◌≡◌, ◌-◌, replicate}
use Rattle.replay.specs.Lines.{fields_from}
use Rattle.replay.proofs.lines.numbers.Given as goal

abbrev pub invariant-loop-k : goal.invariant-loop-k
invariant-loop-k l = fields_from l.k l.line l.numbers ≡ fields_from l.count l.line (replicate 5 0)
