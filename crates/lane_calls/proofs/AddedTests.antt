-- Of the tests that SCOPE 9.6 adds to the multibase shortcut none but the one for a finite lane can fail, and that under FgbioCompat alone: the others
-- pass wherever a rule names a lane. Assumes nothing.
use mathlib.Core.Path.{◌≡◌, refl, ap}
use mathlib.Core.Bool.{Bool, true, false, ◌&&◌}
use mathlib.Core.List.{List}
use Prim.Native.Nat.{ℕ, ◌<◌, ◌≤◌}
use lib.Dec.{ltb}
use lib.Ieee.{Float}
use lib.Ieee.Scale.{finite}
use borrow.Author.Tests.{ltb-true, lt-ltb, le-ltb}
use Rattle.std.specs.Prelude.{None, if◌then◌else◌}
use Rattle.tie_rules.specs.declared.tie_rule.TieRule.{TieRule}
use Rattle.tie_rules.specs.Lanes.{lane, no_lane}
use Rattle.tie_rules.specs.Ties.{untied, none_above, unique_max_index_with}
use Rattle.tie_rules.proofs.Stands.{named_stands}
use Rattle.lane_calls.specs.Calls.{called, no_call}
use Rattle.lane_calls.specs.Full.{full_quality, full_call}
use Rattle.lane_calls.specs.Lane.{reply_of_lane}
use Rattle.lane_calls.specs.Multibase.{rest_reply, multibase_reply}

-- tests that pass wherever the first does, left out
left_out : (a b c d : Bool) → (a ≡ true → (c ≡ true) × (d ≡ true)) → (a && (b && (c && d))) ≡ (a && b)
left_out true true c d f = rw ((f refl).0, (f refl).1)
left_out true false c d f = refl
left_out false b c d f = refl

-- the shortcut without the tests for ties and for a lane above
pub multibase_is : (pre : Float) (xs : List Float) (rule : TieRule) → multibase_reply pre xs rule
    ≡ (let i = unique_max_index_with xs rule in
    let m = lane xs i in
    if ltb i no_lane && finite m then rest_reply pre xs i m
    else None)
unfolding multibase_reply
multibase_is pre xs rule =
    let i = unique_max_index_with xs rule in
    let m = lane xs i in
    ap (λ (t : Bool). if t then rest_reply pre xs i m else None)
    (left_out (ltb i no_lane) (finite m) (untied rule xs i m) (none_above xs m) (λ t. named_stands xs rule (ltb-true i no_lane t)))

-- ---- for the rule's lane, once it is found

module _ (pre : Float) (xs : List Float) (rule : TieRule) (i : ℕ) (e : i ≡ unique_max_index_with xs rule) where
  -- the shortcut is that for this lane
  pub named_reply : i < no_lane → multibase_reply pre xs rule ≡ reply_of_lane pre xs i (lane xs i)
  unfolding reply_of_lane
  named_reply h = rw (multibase_is pre xs rule, ← e, lt-ltb i no_lane h)

  pub unnamed_reply : no_lane ≤ i → multibase_reply pre xs rule ≡ None
  unnamed_reply h = rw (multibase_is pre xs rule, ← e, le-ltb i no_lane h)

  -- and so is the long calculation
  pub named_full : i < no_lane → full_call pre xs rule ≡ called i (full_quality pre xs (lane xs i))
  unfolding full_call
  named_full h = rw (← e, lt-ltb i no_lane h)

  pub unnamed_full : no_lane ≤ i → full_call pre xs rule ≡ no_call
  unfolding full_call
  unnamed_full h = rw (← e, le-ltb i no_lane h)
