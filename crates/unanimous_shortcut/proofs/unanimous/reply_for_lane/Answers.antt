-- `reply_for_lane`: where every test passes the tables are asked. Assumes nothing.
use borrow.Author.Tests.{lt-ltb}
use Rattle.std.specs.Float.{float_is_finite}
use Rattle.unanimous_shortcut.specs.Unanimous.{reply_for_lane}
use Rattle.unanimous_shortcut.proofs.unanimous.reply_for_lane.Goals as goal
use Rattle.unanimous_shortcut.proofs.unanimous.reply_for_lane.Goals.{else-leads-via-then-leads+then-is_finite+else-untied, else-leads-via-then-leads+else-is_finite, else-leads-via-else-leads}

pub returns-then-untied : goal.returns-then-untied
unfolding reply_for_lane float_is_finite
returns-then-untied c =
    rw (lt-ltb _ _ c.if-i-ge4.false, ← c.leads.ensures, c.if-leads.true, ← c.is_finite.ensures.value, c.if-is_finite.true, ← c.untied.ensures, c.if-untied.true) c.gap_reply.ensures

pub returns : goal.returns
unfolding reply_for_lane float_is_finite
returns c = elim c.else-leads.branch [
  | else-leads-via-then-leads+then-is_finite+else-untied w ↦
      rw (lt-ltb _ _ c.if-i-ge4.false, ← c.leads.ensures, w.if-leads.true, ← w.is_finite.ensures.value, w.if-is_finite.true, ← w.untied.ensures, w.if-untied.false)
  | else-leads-via-then-leads+else-is_finite w ↦
      rw (lt-ltb _ _ c.if-i-ge4.false, ← c.leads.ensures, w.if-leads.true, ← w.is_finite.ensures.value, w.if-is_finite.false)
  | else-leads-via-else-leads w ↦ rw (lt-ltb _ _ c.if-i-ge4.false, ← c.leads.ensures, w.if-leads.false)
]
