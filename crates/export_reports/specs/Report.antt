-- The bytes of a report.
use Rattle.std.specs.Prelude.{ℕ, List, [], ◌∷◌, ◌++◌, Float, Option, Some, None}
use Rattle.std.specs.Float.{binary64}
use Rattle.std.specs.Float.Ieee.{to_bits}
use Rattle.gap_tables.specs.declared.gaps.UnanimousGapTables.{UnanimousGapTables}
use Rattle.tie_rules.specs.Lanes.{lane, counted}
use Rattle.lane_calls.specs.declared.call.Call.{Call}
use Rattle.base_builder.specs.declared.builder.ConsensusBaseBuilder.{ConsensusBaseBuilder}
use Rattle.base_builder.specs.Calls.{unanimous_of, multibase_of, call_full_of, call_of}
use Rattle.export_scripts.specs.declared.item.Item.{Item}
use Rattle.export_scripts.specs.declared.item.Item.TheVariants.{Add, Reset, SetTieRule, Question}
use Rattle.export_scripts.specs.declared.progress.Progress.{Progress}
use Rattle.lent_bytes.specs.Bytes.{number_bytes, four_bytes}

-- what f gives at the lanes 0 to 3, one after another
unfoldable pub each_lane : (ℕ → List ℕ) → List ℕ
each_lane f = f 0 ++ f 1 ++ f 2 ++ f 3

-- a number's bit pattern in 8 bytes, a NaN's 0x7ff8000000000000
abbrev pub pattern_of : Float → List ℕ
pattern_of x = number_bytes 8 (to_bits binary64 x)

-- four numbers by theirs
abbrev pub patterns_of : List Float → List ℕ
patterns_of xs = each_lane (λ i. pattern_of (lane xs i))

-- four counts of 4 bytes
abbrev pub counts_of : List ℕ → List ℕ
counts_of ns = each_lane (λ i. four_bytes (counted ns i))

-- a builder in 80 bytes: likelihoods, compensations, counts
unfoldable pub builder_bytes : ConsensusBaseBuilder → List ℕ
builder_bytes b = patterns_of b.likelihoods ++ patterns_of b.compensations ++ counts_of b.observations

-- a call: base, quality
abbrev pub call_bytes : Call → List ℕ
call_bytes c = c.base ∷ c.qual.0 ∷ []

-- a shortcut: 1 and its call, or 0 0 0 where it does not reply
abbrev pub reply_bytes : Option Call → List ℕ
reply_bytes (Some c) = 1 ∷ c.base ∷ c.qual.0 ∷ []
reply_bytes None = 0 ∷ 0 ∷ 0 ∷ []

-- what is called, in 10 bytes: both shortcuts, the long calculation, the call
unfoldable pub calls_bytes : UnanimousGapTables → ConsensusBaseBuilder → List ℕ
calls_bytes g b = reply_bytes (unanimous_of g b) ++ reply_bytes (multibase_of b) ++ call_bytes (call_full_of b) ++ call_bytes (call_of g b)

-- a report in 91 bytes: the builder, what is called, the number of refusals
unfoldable pub report_of : UnanimousGapTables → Progress → List ℕ
report_of g p = builder_bytes p.builder ++ calls_bytes g p.builder ++ (p.refused ∷ [])

-- what an item writes: a report for a question, and else nothing
unfoldable pub said : UnanimousGapTables → Item → Progress → List ℕ
said g (Add base qual) p = []
said g Reset p = []
said g (SetTieRule rule) p = []
said g (Question kind) p = report_of g p
