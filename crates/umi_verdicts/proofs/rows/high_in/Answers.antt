-- `high_in`: those left say what all of them say. Assumes nothing.
use Rattle.std.specs.List.{list_any}
use Rattle.std.proofs.Common.{◌≡◌, ◌||◌, sym, ap, ◌∙◌, true, false, List, ℕ, take, drop}
use Rattle.std.proofs.lemmas.List.Folds.{list_any-append}
use lib.ListN.{take-append-drop}
use Rattle.umi_rows.specs.Rows.{is_high}
use Rattle.umi_verdicts.proofs.rows.high_in.Goals as goal

-- the first n, or those after them
cut : (n : ℕ) (s : List ℕ) → list_any is_high s ≡ (list_any is_high (take n s) || list_any is_high (drop n s))
cut n s = ap (list_any is_high) (sym (take-append-drop n s)) ∙ list_any-append is_high (take n s) (drop n s)

pub returns-then-high_among : goal.returns-then-high_among
returns-then-high_among c =
    let (block, after, size) = c.in-Some.ensures.cases in
    let here : list_any is_high c.in-Some.block.now ≡ true = sym c.high_among.ensures ∙ c.if-high_among.true in
    sym (cut 64 c.loop-block.rest.now ∙ rw (← block, here)) ∙ c.loop-block.invariant

pub loop-block-preserved : goal.loop-block-preserved
loop-block-preserved c =
    let (block, after, size) = c.in-Some.ensures.cases in
    let none : list_any is_high c.in-Some.block.now ≡ false = sym c.high_among.ensures ∙ c.if-high_among.false in
    sym (cut 64 c.loop-block.rest.now ∙ rw (← block, none, ← after)) ∙ c.loop-block.invariant
