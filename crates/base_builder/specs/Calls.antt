-- The call of a builder: a shortcut where one replies, and else the long calculation.
use Rattle.std.specs.Prelude.{Option, unwrap_or, eqb}
use Rattle.std.specs.Prelude.{if◌then◌else◌}
use Rattle.gap_tables.specs.declared.gaps.UnanimousGapTables.{UnanimousGapTables}
use Rattle.lane_calls.specs.declared.call.Call.{Call}
use Rattle.lane_calls.specs.declared.position.Position.{Position}
use Rattle.lane_calls.specs.Calls.{no_call}
use Rattle.unanimous_shortcut.specs.Unanimous.{unanimous_reply}
use Rattle.lane_calls.specs.Multibase.{multibase_reply}
use Rattle.lane_calls.specs.Full.{full_call}
use Rattle.base_builder.specs.declared.builder.ConsensusBaseBuilder.{ConsensusBaseBuilder}
use Rattle.base_builder.specs.Builder.{contributions_of}

-- what a call takes beside the counts
abbrev pub position_of : ConsensusBaseBuilder → Position
position_of b = record { likelihoods = b.likelihoods; tie_rule = b.tie_rule; ln_error_pre_umi = b.ln_error_pre_umi }

-- what the unanimous shortcut answers
unfoldable pub unanimous_of : UnanimousGapTables → ConsensusBaseBuilder → Option Call
unanimous_of t b = unanimous_reply t b.likelihoods b.observations b.tie_rule

-- what the multibase shortcut answers
unfoldable pub multibase_of : ConsensusBaseBuilder → Option Call
multibase_of b = multibase_reply b.ln_error_pre_umi.0 b.likelihoods b.tie_rule

-- the long calculation's call
unfoldable pub call_full_of : ConsensusBaseBuilder → Call
call_full_of b = full_call b.ln_error_pre_umi.0 b.likelihoods b.tie_rule

-- the call where the unanimous shortcut does not reply
unfoldable pub long_way : ConsensusBaseBuilder → Call
long_way b = unwrap_or (multibase_of b) (call_full_of b)

-- the call: none where nothing was counted
unfoldable pub call_of : UnanimousGapTables → ConsensusBaseBuilder → Call
call_of t b =
    if eqb (contributions_of b) 0 then no_call
    else unwrap_or (unanimous_of t b) (long_way b)
