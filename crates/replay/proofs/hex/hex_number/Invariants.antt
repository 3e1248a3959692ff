-- `hex_number`: the number of the digits so far, gone on by those that are left, is the number of all. Assumes nothing.
use Rattle.std.proofs.Common.{◌≡◌, ◌^◌, ◌<◌, drop}
use Rattle.replay.specs.Hex.{hex_from}
use Rattle.replay.proofs.hex.hex_number.Given as goal

abbrev pub invariant-loop-b : goal.invariant-loop-b
invariant-loop-b l = (l.n < 16 ^ l.b-index) × (hex_from l.n (drop l.b-index l.digits) ≡ hex_from 0 l.digits)
