-- `put_bytes`: those passed are put. Assumes nothing.
use lib.ListN.{take}
use Rattle.lent_text.specs.Printed.{Put}
use Rattle.lent_text.proofs.put_bytes.Given as goal

abbrev pub invariant-loop-byte : goal.invariant-loop-byte
invariant-loop-byte l = Put l.initial.out l.at (take l.byte-index l.bytes) l.out l.place
