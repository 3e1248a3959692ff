-- A report has 91 bytes, and a script's reports 91 each. Assumes nothing.
use Rattle.std.proofs.Common.{◌≡◌, ℕ, ◌+◌, ◌*◌, cond, List, [], ◌∷◌, Option, Some, None, length, refl, arith, length-append}
use Rattle.std.specs.Prelude.{Float, to_bits}
use Rattle.std.specs.Float.{binary64}
use Rattle.std.proofs.lemmas.List.Sums.{sum_by-cons}
use Rattle.rate_tables.specs.declared.adjusted.AdjustedProbabilityTables.{AdjustedProbabilityTables}
use Rattle.gap_tables.specs.declared.gaps.UnanimousGapTables.{UnanimousGapTables}
use Rattle.lane_calls.specs.declared.call.Call.{Call}
use Rattle.tie_rules.specs.Lanes.{lane, counted}
use Rattle.base_builder.specs.declared.builder.ConsensusBaseBuilder.{ConsensusBaseBuilder}
use Rattle.base_builder.specs.Calls.{unanimous_of, multibase_of}
use Rattle.export_scripts.specs.declared.item.Item.{Item}
use Rattle.export_scripts.specs.declared.item.Item.TheVariants.{Add, Reset, SetTieRule, Question}
use Rattle.export_scripts.specs.declared.progress.Progress.{Progress}
use Rattle.export_scripts.specs.Script.{is_question, questions, passed}
use Rattle.lent_bytes.specs.Bytes.{four_bytes}
use Rattle.lent_bytes.proofs.Numbers.{bytes_length}
use Rattle.export_reports.specs.Report.{each_lane, pattern_of, patterns_of, counts_of, builder_bytes, reply_bytes, calls_bytes, report_of, said}
use Rattle.export_reports.specs.Runs.{reports}

-- four parts of one length
each-length : (f : ℕ → List ℕ) (n : ℕ) → ((i : ℕ) → length (f i) ≡ n) → length (each_lane f) ≡ 4 * n
unfolding each_lane
each-length f n h = simp (length-append) (omega (arith, h 0, h 1, h 2, h 3))

patterns_length : (xs : List Float) → length (patterns_of xs) ≡ 32
patterns_length xs = each-length (λ i. pattern_of (lane xs i)) 8 (λ i. bytes_length 8 (to_bits binary64 (lane xs i)))

counts_length : (ns : List ℕ) → length (counts_of ns) ≡ 16
counts_length ns = each-length (λ i. four_bytes (counted ns i)) 4 (λ i. bytes_length 4 (counted ns i))

pub builder_length : (b : ConsensusBaseBuilder) → length (builder_bytes b) ≡ 80
unfolding builder_bytes
builder_length b = simp (length-append) (omega (arith, patterns_length b.likelihoods, patterns_length b.compensations, counts_length b.observations))

reply_length : (r : Option Call) → length (reply_bytes r) ≡ 3
reply_length (Some c) = refl
reply_length None = refl

calls_length : (g : UnanimousGapTables) (b : ConsensusBaseBuilder) → length (calls_bytes g b) ≡ 10
unfolding calls_bytes
calls_length g b = simp (length-append) (omega (arith, reply_length (unanimous_of g b), reply_length (multibase_of b)))

report_length : (g : UnanimousGapTables) (p : Progress) → length (report_of g p) ≡ 91
unfolding report_of
report_length g p = simp (length-append) (omega (arith, builder_length p.builder, calls_length g p.builder))

pub reports_length : (t : AdjustedProbabilityTables) (g : UnanimousGapTables) (is : List Item) (p : Progress) → length (reports t g is p) ≡ 91 * questions is
unfolding reports said
reports_length t g [] p = refl
reports_length t g (Add base qual ∷ is) p = reports_length t g is (passed t (Add base qual) p)
reports_length t g (Reset ∷ is) p = reports_length t g is (passed t Reset p)
reports_length t g (SetTieRule rule ∷ is) p = reports_length t g is (passed t (SetTieRule rule) p)
reports_length t g (Question k ∷ is) p =
    let report : length (said g (Question k) p) ≡ 91 = report_length g p in
    let more : questions (Question k ∷ is) ≡ 1 + questions is = sum_by-cons (λ x. cond (is_question x) 1 0) (Question k) is in
    rw (length-append) (omega (arith, report, more, reports_length t g is (passed t (Question k) p)))
