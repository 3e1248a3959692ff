-- `errors_with`: the sum and what is left to add are all, at each turn. Assumes nothing.
use Rattle.std.proofs.Common.{ℕ, ◌+◌, ◌%◌, ◌^◌, get_or, sym, ap, ◌∙◌, arith}
use Rattle.std.specs.Slice.Iter.{chunks_exact_rest}
use Rattle.words.proofs.Sums.{wrapped, all_added_lem}
use Rattle.expected_errors.proofs.SumLaws.{turn, turned}
use Rattle.expected_errors.proofs.sums.errors_with.Goals as goal

pub loop-observation-preserved : goal.loop-observation-preserved
loop-observation-preserved c =
    let table = c.args.errors.now in
    let pair = c.in-Some.observation.now in
    let l = c.loop-observation.invariant in
    let (size, (rest, two), same) = c.in-Some.ensures.steps in
    record {
      two = size ∙ l.two;
      fits = omega arith;
      sum = rw c.from.ensures (wrapped c.loop-observation.sum (get_or table (get_or pair 1 0) 0) _ (2 ^ 64)
          ∙ ap (λ (k : ℕ). (c.loop-observation.sum + k) % 2 ^ 64) (sym (turn table pair (chunks_exact_rest c.next.new.self) (two ∙ l.two)))
          ∙ rw (← rest) l.sum);
    }

pub returns : goal.returns
returns c =
    let (size, (less, same), remainder) = c.in-None.ensures.steps in
    let l = c.loop-observation.invariant in
    all_added_lem c.loop-observation.sum _ _ (2 ^ 64) l.fits (turned c.args.errors.now (chunks_exact_rest c.loop-observation.observation-iterator) (omega (arith, less, l.two))) l.sum
