use Rattle.std.proofs.Common.{ℕ, ◌+◌, ◌∙◌, ap, arith}
use Rattle.words.specs.Lists.{byte_at}
use Rattle.tie_rules.proofs.Lanes.{four}
use Rattle.umi_family.proofs.CountLoops.{hits, passed_more}
use Rattle.umi_family.proofs.counts.Counts.count_row.Goals as goal

pub loop-i-preserved : goal.loop-i-preserved
loop-i-preserved c =
    let row = c.args.row.now in
    let b = c.args.self.now in
    let s = c.loop-i.self in
    let i = c.loop-i.i in
    let inv = c.loop-i.invariant in
    let h = hits (byte_at row i) (c.type_inv.row i).fits in
    four _
    (passed_more 0 row b.a i s.a (inv 0 (omega arith)) (omega arith) (c.requires 0 (omega arith)) _ (ap (λ (n : ℕ). byte_at s.a i + n) (c.hit.ensures.one ∙ h.0)))
    (passed_more 1 row b.c i s.c (inv 1 (omega arith)) (omega arith) (c.requires 1 (omega arith)) _ (ap (λ (n : ℕ). byte_at s.c i + n) (c.hit-in-loop-i.ensures.one ∙ h.1)))
    (passed_more 2 row b.g i s.g (inv 2 (omega arith)) (omega arith) (c.requires 2 (omega arith)) _ (ap (λ (n : ℕ). byte_at s.g i + n) (c.hit-in-loop-i-2.ensures.one ∙ h.2)))
    (passed_more 3 row b.t i s.t (inv 3 (omega arith)) (omega arith) (c.requires 3 (omega arith)) _ (ap (λ (n : ℕ). byte_at s.t i + n) (c.hit-in-loop-i-3.ensures.one ∙ h.3)))
