-- A builder of 80 given bytes.
use Rattle.std.specs.Prelude.{ℕ, ◌+◌, ◌*◌, List, [], eqb, length}
use Rattle.float.specs.Ops.{bits}
use Rattle.std.specs.Prelude.{if◌then◌else◌}
use Rattle.lent_bytes.specs.Bytes.{number_at}
use Rattle.phred.specs.Phred.{phred_to_ln_error_prob}
use Rattle.tie_rules.specs.declared.tie_rule.TieRule.TheVariants.{FgbioCompat}
use Rattle.tie_rules.specs.Lanes.{lanes}
use Rattle.base_builder.specs.declared.builder.ConsensusBaseBuilder.{ConsensusBaseBuilder}
use Rattle.export_reports.specs.Runs.{script_bytes}

-- the builder whose likelihoods, compensations and counts stand in that order, at a pre-UMI rate
unfoldable pub builder_of : ℕ → List ℕ → ConsensusBaseBuilder
builder_of pre s =
    record {
      likelihoods = lanes (λ i. bits (number_at s 8 (8 * i)));
      compensations = lanes (λ i. bits (number_at s 8 (32 + 8 * i)));
      observations = lanes (λ i. number_at s 4 (64 + 4 * i));
      tie_rule = FgbioCompat;
      ln_error_pre_umi = record { 0 = phred_to_ln_error_prob pre };
    }

-- what a script writes for it; nothing where the state has another length
unfoldable pub builder_script_bytes : ℕ → ℕ → ℕ → List ℕ → List ℕ → List ℕ
builder_script_bytes pre post rule state script =
    if eqb (length state) 80 then script_bytes pre post rule script (builder_of pre state)
    else []
