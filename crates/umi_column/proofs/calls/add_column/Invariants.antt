use Rattle.std.proofs.Common.{◌≡◌, drop}
use Rattle.umi_column.specs.Calls.{added_all}
use Rattle.umi_column.proofs.calls.add_column.Given as goal

abbrev pub invariant-loop-byte : goal.invariant-loop-byte
invariant-loop-byte l =
    added_all l.entry.correct l.entry.error_per_alt (drop l.byte-index l.column) l.after ≡ added_all l.entry.correct l.entry.error_per_alt l.column l.initial.after
