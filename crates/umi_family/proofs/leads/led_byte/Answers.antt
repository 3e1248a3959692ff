use Rattle.std.proofs.Common.{sym, ◌∙◌, ap}
use Rattle.tie_rules.specs.Lanes.{base_of}
use Rattle.umi_column.specs.Sums.{byte_by}
use Rattle.umi_rows.proofs.ColumnLoops.{first_at}
use Rattle.umi_family.proofs.leads.led_byte.Goals as goal

pub returns-then-not-is_dna_base : goal.returns-then-not-is_dna_base
unfolding byte_by
returns-then-not-is_dna_base c =
    let f = c.args.family.now in
    rw (← first_at f.width f.set.now f.places.now c.args.at c.first.result.now f.fit.some c.requires.inside c.first.ensures, sym c.is_dna_base.ensures ∙ c.if-not-is_dna_base.true)

pub returns-in-Some : goal.returns-in-Some
unfolding byte_by
returns-in-Some c =
    let f = c.args.family.now in
    rw (← first_at f.width f.set.now f.places.now c.args.at c.first.result.now f.fit.some c.requires.inside c.first.ensures, sym c.is_dna_base.ensures ∙ c.if-not-is_dna_base.false)
    ((rw c.in-Some.is at c.base_of.ensures) ∙ ap base_of (sym (rw c.in-Some.is at c.requires.named)))
