-- `bytes_at`: each byte of what is left from a place on is the one so many places after it. Assumes nothing.
use Prim.Native.Nat.{ℕ, ◌+◌}
use mathlib.Core.Path.{◌≡◌}
use Rattle.std.proofs.Common.{arith, rules}
use Rattle.std.proofs.lemmas.Grind.{common_steps}
use Rattle.words.specs.Lists.{byte_at}
use Rattle.words.proofs.Listed.{listed_by_calls}
use Rattle.lent_bytes.proofs.bytes_at.Goals as goal

pub returns : goal.returns
returns g c =
    let rest : (i : ℕ) → byte_at c.unwrap_or-rest.result.now i ≡ byte_at c.args.bytes.now (c.args.at + i) = λ i. grind (arith, common_steps, c.get.ensures.lookup) in
    listed_by_calls _ _ (byte_at c.args.bytes.now) 0 c.args.at _ (λ i y q l k. (search (rules, rest), search rules)) _ c.from_fn.ensures.items
