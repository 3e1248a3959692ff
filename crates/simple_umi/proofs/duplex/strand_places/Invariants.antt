use Rattle.std.proofs.Common.{length}
use Rattle.simple_umi.proofs.Strands.{Kept}
use Rattle.simple_umi.proofs.duplex.strand_places.Given as goal

-- the strings kept and those to keep of what is left are the strand
abbrev pub invariant-loop-place : goal.invariant-loop-place
invariant-loop-place l = Kept l.letter l.set l.places (length l.initial.kept) l.place-index l.kept l.n
