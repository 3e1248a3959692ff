-- `print`: a file that is refused, and the lines of one that is not. Assumes nothing.
use native.Mathlib.Omega.{arith}
use Rattle.column_file.proofs.Files.{few_columns}
use Rattle.column_errors.proofs.Files.{read_refused, read_accepted, sums_refused, sums_there}
use Rattle.column_errors.proofs.sums.print.Goals as goal

pub invariant_of-sums : goal.invariant_of-sums
invariant_of-sums c =
    let few = few_columns c.args.file.now _ (read_accepted c.args.file.now c.read.result c.read.ensures.reading c.in-Ok.places c.in-Ok.is) in
    omega (arith, few)

pub returns-in-Ok : goal.returns-in-Ok
returns-in-Ok c =
    let a = read_accepted c.args.file.now c.read.result c.read.ensures.reading c.in-Ok.places c.in-Ok.is in
    let said = rw (c.error_table.ensures, sums_there c.args.file.now c.in-Ok.places a) at c.put_whole.ensures in
    record { reply = said.reply; lent = said.lent }

pub returns-in-Err : goal.returns-in-Err
returns-in-Err c =
    let e = sums_refused c.args.file.now _ (read_refused c.args.file.now c.read.result c.read.ensures.reading c.in-Err.refusal c.in-Err.is) in
    record { reply = rw e c.print_refusal.ensures.reply; lent = rw e c.print_refusal.ensures.lent }
