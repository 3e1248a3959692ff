-- `put_bases`: those below are printed. Assumes nothing.
use Rattle.words.specs.Lists.{listed}
use Rattle.base_builder.specs.Builder.{observations_for_base}
use Rattle.lent_bytes.specs.Bytes.{joined, four_bytes}
use Rattle.lent_text.specs.Printed.{Printed}
use Rattle.export_observations.proofs.put_bases.Given as goal

abbrev pub invariant-loop-base : goal.invariant-loop-base
invariant-loop-base l = Printed l.initial.p l.p (joined four_bytes (listed (observations_for_base l.builder) 0 l.base))
