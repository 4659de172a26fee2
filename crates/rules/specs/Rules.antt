-- A follow rule: when a later event may come right after an earlier one in a trend.
-- Example: by Falling, an event of level 118 follows one of level 119, and none of level 119 or above does.
use Rattle.std.specs.Prelude.{Bool, Decides}
use Rattle.events.specs.declared.event.Event.{Event}

-- of the rule's settings, an earlier and a later event: what it means that the later one follows, and what the test says
pub record Rule (R : Type 0) : Type 1 where
  pub meaning : R → Event → Event → Type 0
  pub says : R → Event → Event → Bool

-- the test says yes exactly where the meaning holds
abbrev pub Decided : {R : Type 0} → Rule R → Type 0
Decided {R} rule = (settings : R) (earlier later : Event) → Decides (rule.says settings earlier later) (rule.meaning settings earlier later)
