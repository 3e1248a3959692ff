use Rattle.std.proofs.Common.{◌≡◌, ◌<◌, Ok, Err, length, replicate, refl, sym, ◌∙◌, ap}
use Rattle.std.proofs.lemmas.Result.{err_from_is_err_and}
use borrow.Author.Tests.{leb-true, leb-false}
use Rattle.lent_bytes.proofs.Buffer.{short_written}
use Rattle.refusals.specs.declared.Refusal.TheVariants.{BufferTooShort}
use Rattle.refusals.specs.Result.{and_then}
use Rattle.umi_groups.proofs.Mapped.{map_refused, map_given}
use Rattle.umi_groups.proofs.Room.{room_short, room_enough}
use Rattle.simple_consensus.specs.Consensus.{consensus_of}
use Rattle.simple_consensus.specs.Answers.{group_consensus_of}
use Rattle.simple_consensus.specs.Places.{strings_at}
use Rattle.simple_umi.specs.Duplex.{strand_of, pairing, either, duplex_of}
use Rattle.simple_umi.specs.Answers.{room_for_both}
use Rattle.simple_umi.proofs.Pairs.{strand_text, a_refused, b_refused, both_given, both_reply, either_few}
use Rattle.simple_umi.proofs.duplex.both_strands.Goals as goal

pub returns-in_err-a : goal.returns-in_err-a
returns-in_err-a c =
    let a = c.args in
    let strings = strings_at 0 a.set.now a.places.now in
    let told = c.strand_consensus.ensures in
    let refused = a_refused a.caller strings a.out.now _ (map_refused (group_consensus_of a.caller) (consensus_of a.caller (strand_of 65 strings)) _ (rw c.in_err-a.was at (sym told.group))) in
    let reply = err_from_is_err_and c.from_residual.result c.from_residual.ensures.1 in
    record { pair = rw (reply.1, reply.2, refused) refl; lent = rw refused refl; short = rw reply.1 tt }

pub returns-in_err-b : goal.returns-in_err-b
returns-in_err-b c =
    let a = c.args in
    let strings = strings_at 0 a.set.now a.places.now in
    let told = c.strand_consensus.ensures in
    let given = map_given (group_consensus_of a.caller) (consensus_of a.caller (strand_of 65 strings)) _ (rw c.in_ok-a.was at (sym told.group)) in
    let left = c.in_ok-a.a in
    let said = c.strand_consensus-2.ensures in
    let refused = b_refused a.caller strings a.out.now given.0 given.1 left given.2 _ (map_refused (group_consensus_of left.caller) (consensus_of left.caller (strand_of 66 strings)) _ (rw c.in_err-b.was at (sym said.group))) in
    let reply = err_from_is_err_and c.from_residual-in_err-b.result c.from_residual-in_err-b.ensures.1 in
    record { pair = rw (reply.1, reply.2, refused) refl; lent = rw refused refl; short = rw reply.1 tt }

pub returns-then-not-write_front : goal.returns-then-not-write_front
returns-then-not-write_front c =
    let a = c.args in
    let strings = strings_at 0 a.set.now a.places.now in
    let told = c.strand_consensus.ensures in
    let given = map_given (group_consensus_of a.caller) (consensus_of a.caller (strand_of 65 strings)) _ (rw c.in_ok-a.was at (sym told.group)) in
    let left = c.in_ok-a.a in
    let said = c.strand_consensus-2.ensures in
    let other = map_given (group_consensus_of left.caller) (consensus_of left.caller (strand_of 66 strings)) _ (rw c.in_ok-b.was at (sym said.group)) in
    let right = c.in_ok-b.b in
    let text_a = strand_text _ given.0 left a.caller given.1 given.2 told.few (replicate 255 0) c.strand_consensus.new.text refl told.lent in
    let text_b = strand_text _ other.0 right left.caller other.1 other.2 said.few (replicate 255 0) c.strand_consensus-2.new.text refl said.lent in
    let text = either given.0.text other.0.text in
    let same : c.either-text.result.now ≡ text = rw (text_a.0, text_b.0) at c.either-text.ensures in
    let both = both_given a.caller strings a.out.now given.0 given.1 left given.2 other.0 other.1 right other.2 in
    let found = (pairing given.0 other.0 text).found in
    let short : length a.out.now < length text = leb-false _ _ (sym (rw same at c.write_front.ensures.reply) ∙ c.if-not-write_front.true) in
    let refused : and_then (duplex_of a.caller strings) (room_for_both a.out.now) ≡ Err BufferTooShort = both ∙ rw (room_short a.out.now found short) in
    record { pair = rw refused refl; lent = rw refused ((rw same at c.write_front.ensures.lent) ∙ sym (short_written text a.out.now short)); short = tt }

pub returns : goal.returns
returns c =
    let a = c.args in
    let strings = strings_at 0 a.set.now a.places.now in
    let told = c.strand_consensus.ensures in
    let given = map_given (group_consensus_of a.caller) (consensus_of a.caller (strand_of 65 strings)) _ (rw c.in_ok-a.was at (sym told.group)) in
    let left = c.in_ok-a.a in
    let said = c.strand_consensus-2.ensures in
    let other = map_given (group_consensus_of left.caller) (consensus_of left.caller (strand_of 66 strings)) _ (rw c.in_ok-b.was at (sym said.group)) in
    let right = c.in_ok-b.b in
    let text_a = strand_text _ given.0 left a.caller given.1 given.2 told.few (replicate 255 0) c.strand_consensus.new.text refl told.lent in
    let text_b = strand_text _ other.0 right left.caller other.1 other.2 said.few (replicate 255 0) c.strand_consensus-2.new.text refl said.lent in
    let text = either given.0.text other.0.text in
    let same : c.either-text.result.now ≡ text = rw (text_a.0, text_b.0) at c.either-text.ensures in
    let both = both_given a.caller strings a.out.now given.0 given.1 left given.2 other.0 other.1 right other.2 in
    let found = (pairing given.0 other.0 text).found in
    let fits = leb-true _ _ (sym (rw same at c.write_front.ensures.reply) ∙ c.if-not-write_front.false) in
    let accepted : and_then (duplex_of a.caller strings) (room_for_both a.out.now) ≡ Ok (pairing given.0 other.0 text) = both ∙ rw (room_enough a.out.now found fits) in
    let reply = both_reply a.caller strings a.out.now given.0 given.1 left given.2 other.0 other.1 right other.2 in
    record { pair = rw (accepted, same) (ap Ok reply); lent = rw accepted (rw same at c.write_front.ensures.lent); short = rw same (either_few given.0.text other.0.text text_a.2 text_b.2) }
