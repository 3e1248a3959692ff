-- `tables`: too short a buffer, or all tables. Assumes nothing.
use Rattle.std.proofs.Common.{◌≤◌, length, refl, sym, arith, rules, le-leb}
use borrow.Author.Tests.{lt-leb}
use Rattle.lent_text.proofs.Printed.{printed_written}
use Rattle.export_reports.proofs.Written.{too_short, all_said}
use Rattle.export_tables.specs.Tables.{table_bytes}
use Rattle.export_tables.proofs.Laws.{tables_length}
use Rattle.export_tables.proofs.tables.Goals as goal

pub returns-then-out-lt3016 : goal.returns-then-out-lt3016
returns-then-out-lt3016 c =
    let none = too_short (table_bytes c.args.pre.0 c.args.post.0) c.args.out.now (omega (arith, tables_length c.args.pre.0 c.args.post.0)) in
    record { reply = none.0; some = sym (lt-leb 3016 (length c.args.out.now) (omega arith)); lent = none.1 }

pub returns : goal.returns
unfolding table_bytes
returns c =
    let said = table_bytes c.args.pre.0 c.args.post.0 in
    let size = tables_length c.args.pre.0 c.args.post.0 in
    let fits : length said ≤ length c.args.out.now = omega (arith, size) in
    let printed = printed_written (rw (c.compute-adjusted.ensures, c.build_unanimous_gap_tables-gaps.ensures) at c.put_tables.ensures) refl fits in
    record {
      reply = omega (arith, size, all_said said c.args.out.now fits);
      some = sym (le-leb 3016 (length c.args.out.now) (omega arith));
      lent = search (rules, printed.1, c.put_tables.ensures.buffer);
    }
