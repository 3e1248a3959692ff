use Rattle.std.proofs.Common.{◌≡◌, replicate, refl, ◌∙◌, ap}
use Rattle.std.proofs.lemmas.Result.{err_from_is_err_and}
use Rattle.refusals.specs.Refusals.{number_in}
use Rattle.refusals.specs.Result.{map_ok}
use Rattle.refusals.proofs.Numbers.{number_in-map_ok}
use Rattle.simple_consensus.proofs.Groups.{read_refused, read_strings}
use Rattle.simple_umi.specs.Answers.{duplex_in, duplex_consensus_of}
use Rattle.simple_umi.proofs.Pairs.{kept_pair, duplex_in_refused, duplex_in_lem}
use Rattle.simple_umi.proofs.umi_caller.SimpleUmiConsensusCaller.consensus_duplex.Goals as goal

pub returns-in_err-count : goal.returns-in_err-count
returns-in_err-count c =
    let refused = duplex_in_refused c.args.self.caller c.args.set.now c.args.out.now _ (read_refused c.args.set.now _ (rw c.in_err-count.was at c.read_places.ensures.count)) in
    let reply = err_from_is_err_and c.from_residual.result c.from_residual.ensures.1 in
    let said : c.from_residual.result ≡ map_ok (duplex_consensus_of c.args.self.caller) (duplex_in c.args.self.caller c.args.set.now c.args.out.now) = rw (reply.1, reply.2, refused) refl in
    record { answer = said; caller = kept_pair c.args.self.caller _ _ said; lent = rw refused refl; short = rw reply.1 tt; number = rw (reply.1, reply.2, refused) refl }

pub both_strands-requires : goal.both_strands-requires
both_strands-requires c =
    (read_strings c.args.set.now c.read_places.new.places c.in_ok-count.count (replicate 255 0) c.in_ok-count.ensures.few c.in_ok-count.ensures.count c.read_places.ensures.lent).2

pub returns : goal.returns
returns c =
    let read = read_strings c.args.set.now c.read_places.new.places c.in_ok-count.count (replicate 255 0) c.in_ok-count.ensures.few c.in_ok-count.ensures.count c.read_places.ensures.lent in
    let same = duplex_in_lem c.args.self.caller c.args.set.now c.args.out.now _ read.0 in
    let told = c.both_strands.ensures in
    record { answer = rw same told.pair; caller = rw same (kept_pair c.args.self.caller _ _ told.pair); lent = rw same told.lent; short = told.short; number = rw same (ap number_in told.pair ∙ number_in-map_ok _ _) }
