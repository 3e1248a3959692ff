-- The builder that a column of a file starts from.
use Rattle.base_builder.specs.declared.builder.ConsensusBaseBuilder.{ConsensusBaseBuilder}
use Rattle.base_builder.specs.Builder.{new_at, with_tie_rule}
use Rattle.column_file.specs.declared.settings.Settings.{Settings}

-- a new builder at a file's settings
abbrev pub start_of : Settings → ConsensusBaseBuilder
start_of g = with_tie_rule g.tie_rule (new_at g.error_rate_pre_umi.0)
