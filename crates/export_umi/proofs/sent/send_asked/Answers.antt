-- `send_asked`: the string and the builder fit, or they don't. Assumes nothing.
use Rattle.std.proofs.Common.{List, ℕ, ◌++◌, take, sym, ap, ◌∙◌}
use Rattle.export_reports.specs.Report.{builder_bytes}
use Rattle.export_umi.proofs.Laws.{found, is_found, code_is, builder_is, text_is, both_sent, too_short, bytes_sent}
use Rattle.export_umi.proofs.sent.send_asked.Goals as goal

pub returns-then-write_both : goal.returns-then-write_both
returns-then-write_both c =
    let e = sym c.in-Ok.ensures.asked in
    let f = found c.args.question c.args.caller c.args.set.now e in
    let text = ap (λ (n : ℕ). take n c.ask.new.text) c.from.ensures ∙ text_is c.args.question c.args.caller c.args.set.now e c.in-Ok.ensures.short c.ask.ensures.lent in
    let state = c.builder_bytes-state.ensures ∙ ap builder_bytes (builder_is c.args.question c.args.caller c.args.set.now e) in
    let both = ap (λ (l : List ℕ). l ++ c.builder_bytes-state.result) text ∙ ap (λ (l : List ℕ). f.text ++ l) state in
    let is = is_found c.args.question c.args.caller c.args.set.now e in
    record {
      reply = c.code.ensures ∙ code_is c.args.question c.args.caller c.args.set.now e ∙ both_sent _ c.args.out.now is both (sym c.write_both.ensures.reply ∙ c.if-write_both.true);
      lent = c.write_both.ensures.lent ∙ bytes_sent 0 c.args.out.now is both;
    }

pub returns-else-write_both : goal.returns-else-write_both
returns-else-write_both c =
    let e = sym c.in-Ok.ensures.asked in
    let f = found c.args.question c.args.caller c.args.set.now e in
    let text = ap (λ (n : ℕ). take n c.ask.new.text) c.from.ensures ∙ text_is c.args.question c.args.caller c.args.set.now e c.in-Ok.ensures.short c.ask.ensures.lent in
    let state = c.builder_bytes-state.ensures ∙ ap builder_bytes (builder_is c.args.question c.args.caller c.args.set.now e) in
    let both = ap (λ (l : List ℕ). l ++ c.builder_bytes-state.result) text ∙ ap (λ (l : List ℕ). f.text ++ l) state in
    let is = is_found c.args.question c.args.caller c.args.set.now e in
    record {
      reply = c.from-else-write_both-2.ensures ∙ c.from-else-write_both.ensures ∙ too_short _ c.args.out.now is both (sym c.write_both.ensures.reply ∙ c.if-write_both.false);
      lent = c.write_both.ensures.lent ∙ bytes_sent 0 c.args.out.now is both;
    }
