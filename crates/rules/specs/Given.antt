-- The two rules at hand: Falling and Near.
-- Example: by Near with a gap of 10, an event at time 25 follows those at times 15 to 25, and none before or after them.
use Rattle.std.specs.Prelude.{◌-◌, ◌<◌, ◌≤◌, ◌&&◌, nat_le, nat_lt}
use Rattle.rules.specs.declared.Falling.{Falling}
use Rattle.rules.specs.declared.Near.{Near}
use Rattle.rules.specs.Rules.{Rule}

-- the later level is below the earlier one
abbrev pub falling : Rule Falling
falling = record {
  meaning = λ rule earlier later. later.level < earlier.level;
  says = λ rule earlier later. nat_lt later.level earlier.level;
}

-- the later time is not before the earlier one, and at most the gap after it
abbrev pub near : Rule Near
near = record {
  meaning = λ rule earlier later. (earlier.time ≤ later.time) × (later.time - earlier.time ≤ rule.gap);
  says = λ rule earlier later. nat_le earlier.time later.time && nat_le (later.time - earlier.time) rule.gap;
}
