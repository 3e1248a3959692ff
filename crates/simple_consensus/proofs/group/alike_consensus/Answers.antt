use Rattle.std.proofs.Common.{◌≡◌, refl, sym, ◌∙◌, List, ℕ, arith}
use Rattle.simple_consensus.specs.Strings.{alike}
use Rattle.simple_consensus.specs.Places.{strings_at}
use Rattle.simple_consensus.proofs.Groups.{strings_alike, umis_alike, umis_unlike, group_said}
use Rattle.simple_consensus.proofs.group.alike_consensus.Goals as goal

pub returns-then-not-are_alike : goal.returns-then-not-are_alike
returns-then-not-are_alike c =
    let strings : List (List ℕ) = strings_at 0 c.args.set.now c.args.places.now in
    let tested : alike strings ≡ c.are_alike.result = strings_alike 0 c.args.set.now c.args.places.now c.requires ∙ sym c.are_alike.ensures in
    let unlike = umis_unlike c.args.caller strings (tested ∙ c.if-not-are_alike.true) in
    record { group = rw unlike refl; lent = rw unlike refl; few = rw unlike (omega arith) }

pub returns : goal.returns
returns c =
    let strings : List (List ℕ) = strings_at 0 c.args.set.now c.args.places.now in
    let tested : alike strings ≡ c.are_alike.result = strings_alike 0 c.args.set.now c.args.places.now c.requires ∙ sym c.are_alike.ensures in
    let same = umis_alike c.args.caller strings (tested ∙ c.if-not-are_alike.false) ∙ sym (group_said c.args.caller 0 c.args.set.now c.args.places.now c.requires) in
    record { group = rw same c.group_consensus.ensures.group; lent = rw same c.group_consensus.ensures.lent; few = rw same c.group_consensus.ensures.few }
