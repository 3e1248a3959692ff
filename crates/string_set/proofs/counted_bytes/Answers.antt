-- `counted_bytes`: its length byte, and so many bytes. Assumes nothing.
use Rattle.std.proofs.lemmas.List.{nil_from_length}
use Rattle.string_set.specs.Readers.{byte}
use Rattle.string_set.specs.StringSet.{string}
use Rattle.string_set.proofs.Readers.{front_cut}
use Rattle.string_set.proofs.counted_bytes.Goals as goal

pub returns-in_err-n : goal.returns-in_err-n
unfolding string byte
returns-in_err-n c = rw (c.from_residual.ensures, nil_from_length _ c.in_err-n.ensures.cases)

pub returns : goal.returns
unfolding string byte
returns c = rw (c.in_ok-n.ensures.cases.0) (rw c.from.ensures at (front_cut _ _ _ c.split_at_checked.ensures.cases))
