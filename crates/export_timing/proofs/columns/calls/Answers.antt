-- `calls`: all rounds over the columns where the reading puts them. Assumes nothing.
use Rattle.std.proofs.Common.{sym, ◌∙◌, rules}
use Rattle.column_file.specs.Reading.{read_file}
use Rattle.column_file.specs.Places.{columns_at}
use Rattle.column_calls.specs.Callers.{called_by}
use Rattle.export_timing.specs.Columns.{amounts_with}
use Rattle.export_timing.proofs.Sums.{read_said, calls_accepted}
use Rattle.export_timing.proofs.columns.calls.Goals as goal

pub returns : goal.returns
returns c =
    let places = c.in_ok-places.places in
    let more = amounts_with (called_by c.new-caller.result) (columns_at c.args.file.now places.columns places.count) in
    let accepted = rw c.read.ensures.reading at (sym c.ok.ensures.value ∙ c.in_ok-places.was) in
    record {
      reply = c.repeated.ensures more (λ sum after post. search rules) ∙ rw c.new-caller.ensures (sym (calls_accepted c.args.file.now c.args.times places accepted));
      some = read_said (read_file c.args.file.now) _ accepted;
    }
