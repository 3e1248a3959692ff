-- `read_field`: the bytes so far, and those of the digits that are left, are the bytes of all. Assumes nothing.
use Rattle.std.proofs.Common.{◌≡◌, ◌*◌, ◌++◌, length, take, drop}
use Rattle.std.specs.Prelude.{option_map}
use Rattle.replay.specs.Fields.{bytes_of_digits}
use Rattle.replay.proofs.fields.read_field.Given as goal

abbrev pub invariant-loop-i : goal.invariant-loop-i
invariant-loop-i g l = (length l.b-items ≡ g.row.N) × (option_map (λ bs. take l.i l.b-items ++ bs) (bytes_of_digits (drop (2 * l.i) l.digits)) ≡ bytes_of_digits l.digits)
