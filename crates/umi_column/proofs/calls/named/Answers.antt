use Rattle.std.proofs.Common.{ap, ◌∙◌}
use Rattle.tie_rules.specs.Lanes.{base_of}
use Rattle.umi_column.specs.Sums.{byte_by}
use Rattle.umi_column.proofs.calls.named.Goals as goal

pub returns-then-is_dna_base : goal.returns-then-is_dna_base
unfolding byte_by
returns-then-is_dna_base c =
    rw (← c.is_dna_base.ensures, c.if-is_dna_base.true)
    (c.base_of.ensures ∙ ap base_of c.unique_max_index_with.ensures.lane)

pub returns-else-is_dna_base : goal.returns-else-is_dna_base
unfolding byte_by
returns-else-is_dna_base c = rw (← c.is_dna_base.ensures, c.if-is_dna_base.false)
